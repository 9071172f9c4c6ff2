-- Document 01, "Bench tasks": the lettered tasks A to K, from their bytes to the replies, as one theorem over a list.
use Prim.Native.Nat.{ℕ, zero, suc, ◌-◌}
use mathlib.Core.{Path.◌≡◌, Path.refl, Bool.Bool, Bool.true, Bool.false}
use mathlib.Core.List.{List, [], ◌∷◌, ◌++◌}
use lib.ListN.{length, get_or, take, drop, replicate}
use Rattle.model.specs.declared.Form.TheVariants.{Task}
use Rattle.model.specs.Records.{first_records, records, bytes, SKIP, SET, READ, WRITE, IF, ELSE, WHILE, END, BEAT, SAVE}
use Rattle.model.specs.{Settings.settings_of, Settings.bad_settings, Equalising.equalise}
use Rattle.model.specs.Trees.{linearise, stack_of, tree_of, file_tree}
use Rattle.model.specs.Runs.{Effect, nothing, assigns, outputs, beats, saves, overruns, Buffers, is_beat, is_save, starts, holds, result_of, effect}
use Rattle.model.specs.Layout.{before, last_value, layout, total}
use Rattle.model.specs.{Stopping.image_bytes, Stopping.image_of, Stopping.take_up, Refusals.fields_fit, Refusals.scan, Refusals.fault}
use Rattle.model.specs.{Answers.Verdict, Answers.finished, Answers.refused}
use Rattle.model.specs.Replies.{reading, time_reply, equalised_tree, equalise_reply, equalise_out, laid_tree, lay_out_reply, lay_out_out, prepare_reply}
use Rattle.model.specs.Replies.{Loan, ready, steps_of, run_reply, run_buffers, image_at, stop_reply, stop_buffers, stop_image}
use Rattle.model.specs.Replies.{taken_up, taken_buffers, resume_reply, resume_buffers, restart_reply, restart_buffers}
use Rattle.model.specs.Chain.{Set, Outputs, Chain, laying_out, laid_file, plain_loan, whole_loan, stopped_loan, taking_up, taken_up_buffers, image_tick, run_twice}
use Rattle.model.specs.Listing.{printed, ascii, decimal, printed_text}

-- THE TASKS

-- the 12 bytes of a record whose numbers are below 256, and a file of such rows
abbrev pub row : ℕ → ℕ → ℕ → ℕ → ℕ → ℕ → List ℕ
row k o t l x n = k ∷ o ∷ t ∷ l ∷ x ∷ 0 ∷ 0 ∷ 0 ∷ n ∷ 0 ∷ 0 ∷ 0 ∷ []

abbrev pub file : List (List ℕ) → List ℕ
file [] = []
file (r ∷ rs) = r ++ file rs

-- "Settings 3, 3, 3, 3, 10, K 4, H 20, P 100 unless said."
abbrev pub settings : ℕ → ℕ → List ℕ
settings h p = 3 ∷ 3 ∷ 3 ∷ 3 ∷ 10 ∷ 4 ∷ h ∷ 0 ∷ p ∷ 0 ∷ 0 ∷ 0 ∷ []

-- "READ 0 0, WRITE 0 0"
abbrev copied : List ℕ
copied = file (row READ 0 0 0 0 0 ∷ row WRITE 0 0 0 0 0 ∷ [])

-- 003's factorial: variable 0 is i, 1 is o
abbrev pub factorial : List ℕ
factorial =
    file
    (row READ 0 0 0 0 0
    ∷ row IF 4 0 0 10 0
    ∷ row SET 0 0 0 10 0
    ∷ row SET 0 1 0 1 0
    ∷ row ELSE 0 0 0 0 0
    ∷ row SET 0 1 0 1 0
    ∷ row END 0 0 0 0 0
    ∷ row WHILE 4 0 0 0 10
    ∷ row SET 19 1 1 0 0
    ∷ row SET 2 0 0 1 0
    ∷ row END 0 0 0 0 0
    ∷ row WRITE 0 1 0 0 0
    ∷ [])

-- "READ, SET, then IF with one SET and an empty ELSE"
abbrev branching : List ℕ
branching =
    file
    (row READ 0 0 0 0 0
    ∷ row SET 0 1 0 5 0
    ∷ row IF 0 0 0 5 0
    ∷ row SET 0 1 0 7 0
    ∷ row ELSE 0 0 0 0 0
    ∷ row END 0 0 0 0 0
    ∷ [])

-- "two READs and a WRITE"
abbrev reading_twice : List ℕ
reading_twice = file (row READ 0 0 0 0 0 ∷ row READ 0 1 1 0 0 ∷ row WRITE 0 0 0 0 0 ∷ [])

-- "WHILE variable 0 = 0, count 2, body SKIP 1"
abbrev spinning : List ℕ
spinning = file (row WHILE 0 0 0 0 2 ∷ row SKIP 0 0 0 0 1 ∷ row END 0 0 0 0 0 ∷ [])

-- IFs nested n deep
abbrev nested : ℕ → List (List ℕ) → List (List ℕ)
nested zero rs = rs
nested (suc n) rs = row IF 0 0 0 0 0 ∷ nested n (row ELSE 0 0 0 0 0 ∷ row END 0 0 0 0 0 ∷ rs)

-- THE CALLS ON A TASK

-- a task with its settings, and the input at port 0; all other inputs and the first variables are 0
pub record Bench : Type 0 where
  pub rack : List ℕ
  pub task : List ℕ
  pub input : ℕ

-- a buffer that holds anything
abbrev pub junk : ℕ → List ℕ
junk n = replicate n 9

-- a verdict's number, 0 where it is finished, and values
abbrev pub said : Verdict → List ℕ
said (finished xs) = 0 ∷ xs
said (refused n xs) = n ∷ xs

-- what laying out answers: the refusal's number, or 0 and the total
abbrev outcome : Verdict → List ℕ
outcome (finished xs) = 0 ∷ get_or xs 1 0 ∷ []
outcome (refused n xs) = n ∷ []

-- the calls on it, in buffers that hold anything, stopped at a tick
abbrev pub first : Bench → Set
first c = record { variables = replicate 16 0; inputs = c.input ∷ replicate 7 0 }

abbrev pub outs : Outputs
outs = record { levels = junk 8; marks = junk 8 }

abbrev pub chain : Bench → ℕ → Chain
chain c stop = record {
  settings = c.rack;
  task = c.task;
  equalised_room = junk 600;
  laid_room = junk 1200;
  one = first c;
  two = first c;
  plain_one = outs;
  plain_two = outs;
  whole = outs;
  stopped = outs;
  image = junk 72;
  spare = junk 16;
  stop = stop;
}

-- the end of a run: its answer, the levels and the marks, and variables 0 and 1
abbrev ends : Verdict → Buffers → List (List ℕ)
ends r b = said r ∷ b.levels ∷ b.marks ∷ take 2 b.variables ∷ []

abbrev ending : Loan → List (List ℕ)
ending c = ends (run_reply c) (run_buffers c)

-- stopped and taken up: what the stop answers, the image's tick and the ticks run twice, and the end
abbrev taken_up_at : Chain → List (List ℕ)
taken_up_at k =
    let c = stopped_loan k in
    said (stop_reply c k.image k.stop)
    ∷ (image_tick c k.image k.stop ∷ run_twice c k.image k.stop ∷ [])
    ∷ ends (taking_up c k.image k.spare k.stop) (taken_up_buffers c k.image k.spare k.stop)

-- the steps that are WRITEs
abbrev is_output : Effect → Bool
is_output nothing = false
is_output (assigns a x) = false
is_output (outputs p x) = true
is_output (beats x) = false
is_output (saves m) = false
is_output overruns = false

-- WHAT THE PAPER ASKS OF THEM

pub data Question : Type 0 where
  timing : Question  -- the answer of timing the task
  laying_out_is : Question  -- the answer of laying out, and the last record
  laid : Question  -- the laid file's bytes
  listing : Question  -- what is printed
  placed : Question  -- the start ticks of the BEATs, SAVEs and WRITEs of the laid file's run
  running : Question  -- the ends of the task as written and of the laid file
  taking_up_is : ℕ → Question  -- stopped at a tick and taken up

abbrev answer : Bench → Question → List (List ℕ)
answer c timing = said (time_reply c.rack Task c.task) ∷ []
answer c laying_out_is = let k = chain c 0 in outcome (laying_out k) ∷ drop (length (laid_file k) - 12) (laid_file k) ∷ []
answer c laid = laid_file (chain c 0) ∷ []
answer c listing = printed_text (printed c.rack c.task) ∷ []
answer c placed =
    let es = steps_of (whole_loan (chain c 0)) in
    starts is_beat 0 es ∷ starts is_save 0 es ∷ starts is_output 0 es ∷ []
answer c running = let k = chain c 0 in ending (plain_loan k (first c) outs) ++ ending (whole_loan k)
answer c (taking_up_is stop) = taken_up_at (chain c stop)

-- a task, a question, and the paper's answer
pub record Lettered : Type 0 where
  pub on : Bench
  pub asks : Question
  pub expects : List (List ℕ)

abbrev case : List ℕ → List ℕ → ℕ → Question → List (List ℕ) → Lettered
case s bs x q a = record { on = record { rack = s; task = bs; input = x }; asks = q; expects = a }

abbrev pub Holds : List Lettered → Type 0
Holds [] = Unit {0}
Holds (l ∷ ls) = (answer l.on l.asks ≡ l.expects) × Holds ls

-- an end's rows: the end tick, whether it overran, level and mark of port 0, variables 0 and 1
abbrev end : ℕ → ℕ → ℕ → ℕ → ℕ → ℕ → List (List ℕ)
end t o x m a b = (0 ∷ t ∷ o ∷ []) ∷ (x ∷ replicate 7 0) ∷ (m ∷ replicate 7 0) ∷ (a ∷ b ∷ []) ∷ []

pub lettered : List Lettered
lettered =
    -- A
    case (settings 20 100) [] 0 laid (file (row BEAT 0 0 0 1 0 ∷ row SAVE 0 0 0 0 0 ∷ row SKIP 0 0 0 0 7 ∷ row BEAT 0 0 0 4 0 ∷ []) ∷ [])
    ∷ case (settings 20 100) [] 0 laying_out_is ((0 ∷ 23 ∷ []) ∷ row BEAT 0 0 0 4 0 ∷ [])
    -- B
    ∷ case (settings 20 100) copied 0 listing (ascii "0 BEAT 1\n3 SAVE\n13 READ 0 0\n16 WRITE 0 0\n19 SKIP 1\n20 BEAT 4\n23 end\n" ∷ [])
    -- C, on 12 and on 0
    ∷ case (settings 20 200) factorial 12 timing ((0 ∷ 84 ∷ []) ∷ [])
    ∷ case (settings 20 200) factorial 12 placed ((0 ∷ 20 ∷ 40 ∷ 60 ∷ 80 ∷ 100 ∷ 120 ∷ 140 ∷ []) ∷ (3 ∷ 83 ∷ []) ∷ (124 ∷ []) ∷ [])
    ∷ case (settings 20 200) factorial 12 laying_out_is ((0 ∷ 143 ∷ []) ∷ row BEAT 0 0 0 3 0 ∷ [])
    ∷ case (settings 20 200) factorial 12 running (end 84 0 3628800 1 0 3628800 ++ end 143 0 3628800 1 0 3628800)
    ∷ case (settings 20 200) factorial 0 running (end 11 0 1 1 0 1 ++ end 143 0 1 1 0 1)
    -- D
    ∷ case (settings 20 143) factorial 12 laying_out_is ((0 ∷ 143 ∷ []) ∷ row BEAT 0 0 0 0 0 ∷ [])
    -- E
    ∷ case (settings 20 142) factorial 12 laying_out_is ((8 ∷ []) ∷ [] ∷ [])
    ∷ case (settings 20 142) factorial 12 listing (ascii "refused 8\n" ∷ [])
    -- F
    ∷ case (settings 16 100) [] 0 laying_out_is ((0 ∷ 19 ∷ []) ∷ row BEAT 0 0 0 6 0 ∷ [])
    -- G
    ∷ case (settings 15 100) [] 0 laying_out_is ((7 ∷ []) ∷ [] ∷ [])
    -- H
    ∷ case (settings 20 100) branching 0 timing ((0 ∷ 10 ∷ []) ∷ [])
    ∷ case (settings 20 100) branching 0 listing (ascii "0 BEAT 1\n3 SAVE\n13 READ 0 0\n16 SET 0 1 0 5\n19 IF 0 0 0 5\n20 BEAT 1\n23 SET 0 1 0 7\n20 ELSE\n20 BEAT 1\n23 SKIP 3\n26 END\n26 SKIP 14\n40 BEAT 3\n43 end\n" ∷ [])
    -- I
    ∷ case (settings 20 100) reading_twice 0 listing (ascii "0 BEAT 1\n3 SAVE\n13 READ 0 0\n16 READ 1 1\n19 SKIP 1\n20 BEAT 1\n23 WRITE 0 0\n26 SKIP 14\n40 BEAT 3\n43 end\n" ∷ [])
    -- J
    ∷ case (settings 20 100) spinning 0 running (end 5 1 0 0 0 0 ++ end 18 1 0 0 0 0)
    -- K
    ∷ case (settings 20 200) factorial 12 (taking_up_is 92) ((0 ∷ 92 ∷ 0 ∷ 1 ∷ []) ∷ (13 ∷ 79 ∷ []) ∷ end 143 0 3628800 1 0 3628800)
    ∷ case (settings 20 200) factorial 12 (taking_up_is 93) ((0 ∷ 93 ∷ 0 ∷ 1 ∷ []) ∷ (93 ∷ 0 ∷ []) ∷ end 143 0 3628800 1 0 3628800)
    ∷ case (settings 20 200) factorial 12 (taking_up_is 12) ((0 ∷ 12 ∷ 0 ∷ 0 ∷ []) ∷ (0 ∷ 12 ∷ []) ∷ end 143 0 3628800 1 0 3628800)
    -- "Nesting 8 passes, 9 is refused 5. 11 bytes are refused 1."
    ∷ case (settings 20 100) (file (nested 8 [])) 0 timing ((0 ∷ 8 ∷ []) ∷ [])
    ∷ case (settings 20 100) (file (nested 9 [])) 0 timing ((5 ∷ 8 ∷ []) ∷ [])
    ∷ case (settings 20 100) (junk 11) 0 timing ((1 ∷ 11 ∷ []) ∷ [])
    ∷ []

pub bench : Holds lettered
unfolding
    lettered first_records records bytes settings_of bad_settings linearise stack_of tree_of file_tree holds result_of effect equalise before
    last_value layout total image_bytes image_of take_up fields_fit scan fault reading time_reply equalised_tree equalise_reply equalise_out
    laid_tree lay_out_reply lay_out_out ready steps_of run_reply run_buffers image_at stop_reply stop_buffers stop_image taken_up taken_buffers
    resume_reply resume_buffers restart_reply restart_buffers prepare_reply printed decimal printed_text
bench = (refl, (refl, (refl, (refl, (refl, (refl, (refl, (refl, (refl, (refl, (refl, (refl, (refl, (refl, (refl, (refl, (refl, (refl, (refl, (refl, (refl, (refl, (refl, tt)))))))))))))))))))))))
