-- Document 01, "Records" on the limits of each form, and "Why a call is turned down", rows 1 to 5.
use Rattle.std.specs.Prelude.{ℕ, ◌+◌, ◌*◌, ◌%◌, Bool, true, cond, not, ◌&&◌, ◌||◌, List, [], ◌∷◌, eqb, leb, ltb, length}
use Rattle.model.specs.declared.Form.{Form}
use Rattle.model.specs.declared.Form.TheVariants.{Task, Equalised, Laid}
use Rattle.model.specs.Limits.{task_records, file_records, task_depth, file_depth, variable_count, port_count, by_variable, most_ticks, most_rounds}
use Rattle.model.specs.Records.{Rec, records, SKIP, SET, READ, WRITE, IF, ELSE, WHILE, END, TIMES, CHECK, BEAT}

-- "A task has 0 to 256 records, the other files at most 5,461."
abbrev pub max_records : Form → ℕ
max_records Task = task_records
max_records Equalised = file_records
max_records Laid = file_records

-- "Nesting reaches 8, in equalised and laid files 16."
abbrev pub max_depth : Form → ℕ
max_depth Task = task_depth
max_depth Equalised = file_depth
max_depth Laid = file_depth

abbrev pub between : ℕ → ℕ → ℕ → Bool
between a b n = leb a n && leb n b

-- "A task holds kinds 1 to 8, an equalised file 1 to 6, 8 and 9, a laid file 1 to 6, 8 and 10 to 12."
abbrev pub kind_fits : Form → ℕ → Bool
kind_fits Task k = between 1 8 k
kind_fits Equalised k = between 1 6 k || between 8 9 k
kind_fits Laid k = between 1 6 k || eqb k 8 || between 10 12 k

-- "Variables are 0 to 15, ports 0 to 7." "Unused bytes are zero."
abbrev pub variable : ℕ → Bool
variable n = ltb n variable_count

abbrev pub port : ℕ → Bool
port n = ltb n port_count

abbrev pub unused : List ℕ → Bool
unused [] = true
unused (n ∷ ns) = eqb n 0 && unused ns

-- an operation or a relation 0 to n with its right value: "Add 16 to byte 1 when bytes 4 to 7 number a variable instead."
abbrev pub op_fits : ℕ → ℕ → ℕ → Bool
op_fits n o x = cond (leb by_variable o) (leb o (by_variable + n) && variable x) (leb o n)

-- "byte 3 the left variable (0 for copy)"
abbrev pub set_fits : Rec → Bool
set_fits r = op_fits 3 r.op r.value && variable r.target && cond (eqb (r.op % by_variable) 0) (unused (r.left ∷ [])) (variable r.left)

abbrev pub test_fits : Rec → Bool
test_fits r = op_fits 5 r.op r.value && unused (r.target ∷ []) && variable r.left

-- "the count of SKIP (1 to 1,000,000), WHILE and TIMES (1 to 65,535). BEAT has its value in bytes 4 to 7 (0 to 1,000,000)."
unfoldable pub fields_fit : Rec → Bool
fields_fit r =
    cond (eqb r.kind SKIP) (unused (r.op ∷ r.target ∷ r.left ∷ r.value ∷ []) && between 1 most_ticks r.count)
    (cond (eqb r.kind SET) (set_fits r && unused (r.count ∷ []))
    (cond (eqb r.kind READ || eqb r.kind WRITE) (unused (r.op ∷ r.value ∷ r.count ∷ []) && variable r.target && port r.left)
    (cond (eqb r.kind IF || eqb r.kind CHECK) (test_fits r && unused (r.count ∷ []))
    (cond (eqb r.kind WHILE || eqb r.kind TIMES) (test_fits r && between 1 most_rounds r.count)
    (cond (eqb r.kind BEAT) (unused (r.op ∷ r.target ∷ r.left ∷ r.count ∷ []) && leb r.value most_ticks)
    (unused (r.op ∷ r.target ∷ r.left ∷ r.value ∷ r.count ∷ [])))))))

-- an open block: an IF before its ELSE, an IF after it, or a loop
pub data Open : Type 0 where
  first second loop : Open

-- the open blocks after a record, the innermost at the head; or that the record may not stand there: "ELSE whose innermost open block
-- is not an IF, END with no block open, IF closed with no ELSE, second ELSE"
pub data Nesting : Type 0 where
  misplaced : Nesting
  inside : List Open → Nesting

abbrev pub after_else : List Open → Nesting
after_else [] = misplaced
after_else (first ∷ os) = inside (second ∷ os)
after_else (second ∷ os) = misplaced
after_else (loop ∷ os) = misplaced

abbrev pub after_end : List Open → Nesting
after_end [] = misplaced
after_end (first ∷ os) = misplaced
after_end (second ∷ os) = inside os
after_end (loop ∷ os) = inside os

abbrev pub nest : ℕ → List Open → Nesting
nest k os =
    cond (eqb k IF) (inside (first ∷ os))
    (cond (eqb k WHILE || eqb k TIMES) (inside (loop ∷ os))
    (cond (eqb k ELSE) (after_else os)
    (cond (eqb k END) (after_end os)
    (inside os))))

-- a refusal's number and value, or that there is none
pub data Fault : Type 0 where
  sound : Fault
  faulty : ℕ → ℕ → Fault

-- "nesting too deep": more open blocks than d
abbrev pub deeper : ℕ → ℕ → Nesting → (List Open → Fault) → Fault
deeper d i misplaced go = faulty 4 i
deeper d i (inside os) go = cond (ltb d (length os)) (faulty 5 i) (go os)

-- "2 to 5 are tried in turn at each record and the first record at fault decides": records from index i on, with os open.
-- "a block open at the end .. (at the end: record count)"
unfoldable pub scan : Form → ℕ → List Open → List Rec → Fault
scan f i [] [] = sound
scan f i (o ∷ os) [] = faulty 4 i
scan f i os (r ∷ rs) =
    cond (not (kind_fits f r.kind)) (faulty 2 i)
    (cond (not (fields_fit r)) (faulty 3 i)
    (deeper (max_depth f) i (nest r.kind os) (λ next. scan f (i + 1) next rs)))

-- "file not whole records, or too many .. number, length in bytes"
abbrev pub bad_length : Form → List ℕ → Bool
bad_length f s = not (eqb (length s % 12) 0) || ltb (12 * max_records f) (length s)

unfoldable pub fault : Form → List ℕ → Fault
fault f s = cond (bad_length f s) (faulty 1 (length s)) (scan f 0 [] (records s))
