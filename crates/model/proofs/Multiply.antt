-- W-204, "Multiply has its own time": what the calls answer of SETs that multiply and of others, and row 7.
use Prim.Native.Nat.{ℕ}
use mathlib.Core.{Path.refl, List.List, List.[], List.◌∷◌}
use Rattle.model.specs.declared.Form.{Form}
use Rattle.model.specs.declared.Form.TheVariants.{Task, Equalised, Laid}
use Rattle.model.specs.Records.{first_records, records, bytes, SET, IF, ELSE, WHILE, END}
use Rattle.model.specs.{Settings.settings_of, Settings.bad_settings, Runs.holds, Runs.result_of, Runs.effect, Equalising.equalise, Chain.lend}
use Rattle.model.specs.Trees.{linearise, stack_of, tree_of, file_tree}
use Rattle.model.specs.Layout.{before, last_value, layout, total}
use Rattle.model.specs.{Refusals.fields_fit, Refusals.scan, Refusals.fault}
use Rattle.model.specs.Replies.{reading, time_reply, equalised_tree, equalise_reply, laid_tree, lay_out_reply, prepare_reply, Loan, ready, steps_of, run_reply}
use Rattle.model.specs.{Answers.Verdict}
use Rattle.model.proofs.Bench.{row, file, settings, junk, factorial}
use Rattle.model.proofs.TurnedDown.{Case, ◌says◌, Answered}

-- the bench settings with P 1,000, this window, and this multiply
abbrev board : ℕ → ℕ → List ℕ
board h m = 3 ∷ 0 ∷ 3 ∷ 0 ∷ 3 ∷ 0 ∷ 3 ∷ 0 ∷ 10 ∷ 0 ∷ 4 ∷ 0 ∷ h ∷ 0 ∷ 0 ∷ 0 ∷ 232 ∷ 3 ∷ 0 ∷ 0 ∷ m ∷ 0 ∷ 0 ∷ 0 ∷ []

-- a SET of an operation, its time, and a run of it
abbrev sets : ℕ → List ℕ
sets o = row SET o 0 0 0 0

abbrev lasts : ℕ → Verdict
lasts o = time_reply (board 40 20) Equalised (sets o)

abbrev lent : List ℕ → Form → List ℕ → Loan
lent s f file = lend s f file (junk 8) (junk 16) (record { levels = junk 8; marks = junk 8 })

abbrev runs : List ℕ → ℕ → Verdict
runs s o = run_reply (lent s Laid (sets o))

-- an IF that multiplies or adds, and a loop that multiplies variable 0, which is 9 first, by 0
abbrev either : List ℕ
either = file (row IF 0 0 0 0 0 ∷ sets 19 ∷ row ELSE 0 0 0 0 0 ∷ sets 17 ∷ row END 0 0 0 0 0 ∷ [])

abbrev looping : List ℕ
looping = file (row WHILE 0 0 0 9 2 ∷ sets 3 ∷ row END 0 0 0 0 0 ∷ [])

pub multiplied : List Case
multiplied =
    -- "A SET's time now depends on its operation": 3 and 19 multiply
    (lasts 3 says 0 ∷ 20 ∷ []) ∷ (lasts 19 says 0 ∷ 20 ∷ []) ∷ (runs (board 40 20) 3 says 0 ∷ 20 ∷ 0 ∷ []) ∷ (runs (board 40 20) 19 says 0 ∷ 20 ∷ 0 ∷ [])
    ∷ (lasts 0 says 0 ∷ 3 ∷ []) ∷ (lasts 1 says 0 ∷ 3 ∷ []) ∷ (lasts 2 says 0 ∷ 3 ∷ []) ∷ (lasts 16 says 0 ∷ 3 ∷ []) ∷ (lasts 17 says 0 ∷ 3 ∷ [])
    ∷ (lasts 18 says 0 ∷ 3 ∷ []) ∷ (runs (board 40 20) 18 says 0 ∷ 3 ∷ 0 ∷ [])
    -- "with 12-byte settings it equals SET's"
    ∷ (runs (settings 20 100) 3 says 0 ∷ 3 ∷ 0 ∷ []) ∷ (runs (settings 20 100) 19 says 0 ∷ 3 ∷ 0 ∷ [])
    -- runs: a test, the multiply, and the test that fails
    ∷ (run_reply (lent (board 40 20) Task looping) says 0 ∷ 22 ∷ 0 ∷ []) ∷ (run_reply (lent (settings 20 100) Task looping) says 0 ∷ 5 ∷ 0 ∷ [])
    -- equalising: the side that adds gets a SKIP of 17, and the loop an ELSE side of 20
    ∷ (equalise_reply (board 40 20) either 72 says 0 ∷ 72 ∷ 21 ∷ []) ∷ (equalise_reply (board 40 20) looping 84 says 0 ∷ 84 ∷ 43 ∷ [])
    -- laying out: the second multiply does not fit the 7 ticks left of the first window
    ∷ (lay_out_reply (board 40 20) (file (sets 3 ∷ sets 19 ∷ [])) 120 says 0 ∷ 96 ∷ 83 ∷ [])
    ∷ (lay_out_reply (board 40 20) (file (sets 3 ∷ sets 18 ∷ [])) 120 says 0 ∷ 72 ∷ 43 ∷ [])
    -- one that fills its window does not wait
    ∷ (lay_out_reply (board 33 20) (sets 3) 60 says 0 ∷ 48 ∷ 36 ∷ []) ∷ (lay_out_reply (board 33 20) (sets 19) 60 says 0 ∷ 48 ∷ 36 ∷ [])
    -- "refusal 7's longest step counts it too", used or not; and a multiply of 1, where SET is longer
    ∷ (lay_out_reply (board 33 20) [] 48 says 0 ∷ 48 ∷ 36 ∷ []) ∷ (lay_out_reply (board 32 20) [] 48 says 7 ∷ [])
    ∷ (lay_out_reply (board 32 20) (sets 3) 72 says 7 ∷ [])
    ∷ (lay_out_reply (board 16 1) [] 48 says 0 ∷ 48 ∷ 19 ∷ []) ∷ (lay_out_reply (board 15 1) [] 48 says 7 ∷ [])
    -- 003's factorial
    ∷ (time_reply (board 40 20) Task factorial says 0 ∷ 254 ∷ []) ∷ (prepare_reply (board 40 20) factorial 1416 says 0 ∷ 1416 ∷ 443 ∷ [])
    ∷ []

pub multiplied_answered : Answered multiplied
unfolding
    multiplied first_records records bytes settings_of bad_settings linearise stack_of tree_of file_tree holds result_of effect equalise before last_value
    layout total fields_fit scan fault reading time_reply equalised_tree equalise_reply laid_tree lay_out_reply prepare_reply ready steps_of run_reply
multiplied_answered = refl
