-- What the functions that run a file's records answer, for every block that stands where they start.
use Rattle.std.specs.Prelude.{ℕ, ◌+◌, ◌-◌, ◌/◌, ◌≤◌, ◌<◌, ◌≡◌, Bool, true, cond, ◌||◌, List, [], ◌∷◌, eqb, length}
use Rattle.std.specs.Prelude.{Result, Ok, Err}
use Rattle.model.specs.Limits.{file_records, port_count}
use Rattle.model.specs.declared.Form.{Form}
use Rattle.model.specs.declared.Settings.{Settings}
use Rattle.model.specs.Records.{kind_at, ELSE, WHILE, TIMES}
use Rattle.model.specs.Trees.{Block, nil, skip, act, branch, while, times, size}
use Rattle.model.specs.Times.{ticks}
use Rattle.model.specs.Runs.{nothing, effect, last_test, Run, ◌⊳◌, single, choose, spin, rounds, run}
use Rattle.reading.specs.Closing.{closing_in, Closings}
use Rattle.reading.specs.Ranges.{SoundFile, Stands, InFile, first_size}
use Rattle.reading.specs.Walks.{StatementAt}
use Rattle.stepping.specs.declared.progress.Place.{Place}
use Rattle.stepping.specs.declared.progress.Halt.{Halt}
use Rattle.stepping.specs.declared.store.Store.{Store}
use Rattle.stepping.specs.Machines.{runs}
use Rattle.stepping.specs.Steps.{going, Ran}

-- WHERE A RUN GOES ON

-- the number of a file's records
abbrev pub extent : List ℕ → ℕ
extent s = length s / 12

-- the ELSE or END that closes the block after k, and the record after that
unfoldable pub closing : List ℕ → ℕ → ℕ
closing s k = closing_in s (extent s - (k + 1)) (k + 1) 0

abbrev pub closed : List ℕ → ℕ → ℕ
closed s k = closing s k + 1

-- where a run goes on from the ELSE or END at k: after the END of the IF, or after the END itself
abbrev pub passed : List ℕ → ℕ → ℕ
passed s k = cond (eqb (kind_at s k) ELSE) (closed s k) (k + 1)

-- where the side starts that the test of the IF at i chooses
abbrev pub chosen : List ℕ → ℕ → Bool → ℕ
chosen s i o = cond o (i + 1) (closed s i)

-- a record of that kind is a loop
abbrev pub is_loop : ℕ → Bool
is_loop k = eqb k WHILE || eqb k TIMES

-- a block stands after the ELSE or END at k, which is before `to`
pub record Behind (f : Form) (s : List ℕ) (to k : ℕ) (b : Block) : Type 0 where
  pub before : k < to
  pub on : k < passed s k
  pub stands : Stands f s (passed s k) (extent s) b

-- of the records up to `to`, these blocks are left after one that ends at k: each is what follows an IF that is open there
pub data Pending (f : Form) (s : List ℕ) (to : ℕ) : ℕ → List Block → Type 0 where
  at_end : {k : ℕ} → k ≡ to → Pending f s to k []
  and_behind : {k : ℕ} {b : Block} {bs : List Block} → Behind f s to k b → Pending f s to (passed s k + size b) bs → Pending f s to k (b ∷ bs)

-- a block stands at i, and of the records up to `to` these blocks are left after it
pub record Chain (f : Form) (s : List ℕ) (i to : ℕ) : Type 0 where
  pub file : InFile f s i (extent s)
  pub pending : List Block
  pub follows : Pending f s to (i + size file.block) pending

-- THE RUNS

-- the run of a block's first statement
abbrev pub first_run : Settings → List ℕ → Block → ℕ → Run
first_run σ ins nil i = λ v. []
first_run σ ins (skip n b) i = single n i (λ v. nothing)
first_run σ ins (act p b) i = single (ticks σ p) i (effect ins p)
first_run σ ins (branch q a d b) i = choose i q (run σ ins a (i + 1)) (run σ ins d (i + 2 + size a))
first_run σ ins (while q n a b) i = spin i n q (run σ ins a (i + 1))
first_run σ ins (times q n a b) i = rounds n (run σ ins a (i + 1)) ⊳ single 1 i (last_test q)

-- of the blocks that are left after one that ends at k
abbrev pub after : Settings → List ℕ → List ℕ → ℕ → List Block → Run
after σ ins s k [] = λ v. []
after σ ins s k (b ∷ bs) = run σ ins b (passed s k) ⊳ after σ ins s (passed s k + size b) bs

-- of a block at i, and of those that are left after it
abbrev pub ahead : Settings → List ℕ → List ℕ → ℕ → Block → List Block → Run
ahead σ ins s i b bs = run σ ins b i ⊳ after σ ins s (i + size b) bs

-- of a chain
abbrev pub along : Settings → List ℕ → {f : Form} {s : List ℕ} {i to : ℕ} → Chain f s i to → Run
along σ ins {s = s} {i} C = ahead σ ins s i C.file.block C.pending

-- WHAT IS ASKED AND ANSWERED

-- a file of at most so many records, the table of its closings and the inputs, lent to a run at tick t
pub record Given (s closings ins : List ℕ) (limit t : ℕ) : Type 0 where
  pub few : extent s ≤ file_records
  pub table : Closings s (extent s) closings
  pub inputs : length ins ≡ port_count
  pub early : t ≤ limit

-- a sound file is run from the record i on: a block, and those that are left after it
pub record Started (s : List ℕ) (i : ℕ) (ins : List ℕ) (limit t : ℕ) : Type 0 where
  pub form : Form
  pub sound : SoundFile form s
  pub inputs : length ins ≡ port_count
  pub early : t ≤ limit
  pub chain : Chain form s i (extent s)

-- the records from i up to `to` are run: a block, and those that are left after it
pub record Begun (s : List ℕ) (i to : ℕ) (closings ins : List ℕ) (limit t : ℕ) : Type 0 where
  pub given : Given s closings ins limit t
  pub form : Form
  pub chain : Chain form s i to

-- the record i is reached
pub record Reached (s : List ℕ) (i : ℕ) (closings ins : List ℕ) (limit t : ℕ) : Type 0 where
  pub given : Given s closings ins limit t
  pub form : Form
  pub file : InFile form s i (extent s)
  pub inside : i < extent s

-- the statement at i is run
pub record Statement (s : List ℕ) (i : ℕ) (closings ins : List ℕ) (limit t : ℕ) : Type 0 where
  pub given : Given s closings ins limit t
  pub form : Form
  pub at : StatementAt form s i (extent s)

pub record RecordsRan (s : List ℕ) (i to : ℕ) (σ : Settings) (ins : List ℕ) (limit t : ℕ) (old new : Store) (r : Result Place Halt) : Type 0 where
  pub right : (f : Form) (C : Chain f s i to) → Ran limit (along σ ins C) to t old new r

-- of the records from `from` up to `to`, run from tick t₀ on, those from `next` on are left at tick t
pub record Running (s : List ℕ) (from to : ℕ) (closings : List ℕ) (σ : Settings) (ins : List ℕ) (limit t₀ : ℕ)
    (old w : Store) (t next : ℕ) : Type 0 where
  pub all : Begun s from to closings ins limit t₀
  pub rest : Begun s next to closings ins limit t
  pub on : from ≤ next
  pub same : runs limit (along σ ins all.chain) (going t₀ old) ≡ runs limit (along σ ins rest.chain) (going t w)

-- the records from i on are run up to where r is
pub record Moved (s : List ℕ) (i to : ℕ) (closings : List ℕ) (σ : Settings) (ins : List ℕ) (limit t : ℕ)
    (old new : Store) (r : Result Place Halt) : Type 0 where
  pub halts : (h : Halt) → r ≡ Err h → RecordsRan s i to σ ins limit t old new r
  pub goes : (p : Place) → r ≡ Ok p → Running s i to closings σ ins limit t old new p.tick p.next

-- up to a loop
pub record StepsRan (s : List ℕ) (i to : ℕ) (closings : List ℕ) (σ : Settings) (ins : List ℕ) (limit t : ℕ)
    (old new : Store) (r : Result Place Halt) : Type 0 where
  pub moved : Moved s i to closings σ ins limit t old new r
  pub stops : (p : Place) → r ≡ Ok p → p.next < to → is_loop (kind_at s p.next) ≡ true

-- past the record i
pub record Past (s : List ℕ) (i to : ℕ) (closings : List ℕ) (σ : Settings) (ins : List ℕ) (limit t : ℕ)
    (old new : Store) (r : Result Place Halt) : Type 0 where
  pub moved : Moved s i to closings σ ins limit t old new r
  pub on : (p : Place) → r ≡ Ok p → i < p.next

-- whatever is left after it
pub record OneRan (s : List ℕ) (i : ℕ) (closings : List ℕ) (σ : Settings) (ins : List ℕ) (limit t : ℕ)
    (old new : Store) (r : Result Place Halt) : Type 0 where
  pub past : (to : ℕ) → Begun s i to closings ins limit t → i < to → Past s i to closings σ ins limit t old new r

pub record StatementRan (s : List ℕ) (i : ℕ) (σ : Settings) (ins : List ℕ) (limit t : ℕ) (old new : Store) (r : Result Place Halt) : Type 0 where
  pub right : (f : Form) (A : StatementAt f s i (extent s)) → Ran limit (first_run σ ins A.file.block i) (i + first_size A.file.block) t old new r

-- the record k is one of the file's, whose closings are in the table
pub record Inner (s : List ℕ) (k : ℕ) (closings : List ℕ) : Type 0 where
  pub before : k < extent s
  pub few : extent s ≤ file_records
  pub table : Closings s (extent s) closings
