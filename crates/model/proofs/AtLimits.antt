-- Document 01, "Why a call is turned down", rows 7 to 12: what the calls answer at the limits and past them. For row 7 see tasks F and G too.
use Prim.Native.Nat.{ℕ}
use mathlib.Core.{Path.refl, List.List, List.[], List.◌∷◌}
use lib.ListN.{replicate}
use Rattle.model.specs.declared.Form.TheVariants.{Task, Laid}
use Rattle.model.specs.Records.{first_records, records, bytes, SKIP, READ, WRITE, BEAT, SAVE}
use Rattle.model.specs.{Settings.settings_of, Settings.bad_settings, Runs.effect, Equalising.equalise, Chain.lend}
use Rattle.model.specs.Trees.{linearise, stack_of, tree_of, file_tree}
use Rattle.model.specs.Layout.{before, last_value, layout, total}
use Rattle.model.specs.{Stopping.image_bytes, Stopping.image_of, Stopping.take_up, Refusals.fields_fit, Refusals.scan, Refusals.fault}
use Rattle.model.specs.Replies.{reading, time_reply, equalised_tree, equalise_reply, laid_tree, lay_out_reply, prepare_reply}
use Rattle.model.specs.Replies.{Loan, ready, steps_of, run_reply, image_at, stop_reply, taken_up, resume_reply}
use Rattle.model.proofs.Bench.{row, file, settings, junk}
use Rattle.model.proofs.TurnedDown.{Case, ◌says◌, Answered}

abbrev rack : List ℕ
rack = settings 20 100

-- a SKIP alone
abbrev waits : ℕ → List ℕ
waits n = file (row SKIP 0 0 0 0 n ∷ [])

-- W-202: "take 900 ticks to set a level", with the other ticks as ever, K 2, H 768 + h, P 5,000, a multiply of 20; a probe copied to a port
abbrev slow : ℕ → List ℕ
slow h = 3 ∷ 0 ∷ 3 ∷ 0 ∷ 132 ∷ 3 ∷ 3 ∷ 0 ∷ 10 ∷ 0 ∷ 2 ∷ 0 ∷ h ∷ 3 ∷ 0 ∷ 0 ∷ 136 ∷ 19 ∷ 0 ∷ 0 ∷ 20 ∷ 0 ∷ 0 ∷ 0 ∷ []

abbrev copies : List ℕ
copies = file (row READ 0 0 0 0 0 ∷ row WRITE 0 0 0 0 0 ∷ [])

-- task A laid out, with buffers of these lengths, and of the table's
abbrev lent : ℕ → ℕ → ℕ → ℕ → Loan
lent v i l m =
    let laid = row BEAT 0 0 0 1 0 ∷ row SAVE 0 0 0 0 0 ∷ row SKIP 0 0 0 0 7 ∷ row BEAT 0 0 0 4 0 ∷ [] in
    lend rack Laid (file laid) (junk i) (junk v) (record { levels = junk l; marks = junk m })

abbrev fit : Loan
fit = lent 16 8 8 8

abbrev image : ℕ → ℕ → List ℕ
image i t = image_bytes (record { index = i; tick = t; variables = replicate 16 0 })

-- on a line, at the limit and past it
pub limits : List Case
limits =
    -- "H below B + S + the longest of SET, READ, WRITE", and for a multiply see Multiply: with H 913 the WRITE waits for the second window, and ends at 1,816
    (prepare_reply (slow 145) copies 96 says 0 ∷ 96 ∷ 1829 ∷ []) ∷ (prepare_reply (slow 144) copies 96 says 7 ∷ [])
    -- "the file's time, or the total laid out, above P"
    ∷ (time_reply rack Task (waits 100) says 0 ∷ 100 ∷ []) ∷ (time_reply rack Task (waits 101) says 8 ∷ [])
    ∷ (lay_out_reply (settings 20 23) [] 48 says 0 ∷ 48 ∷ 23 ∷ []) ∷ (lay_out_reply (settings 20 22) [] 48 says 8 ∷ [])
    -- "result longer than the lent buffer"
    ∷ (equalise_reply rack (waits 100) 12 says 0 ∷ 12 ∷ 100 ∷ []) ∷ (equalise_reply rack (waits 100) 11 says 9 ∷ [])
    ∷ (prepare_reply rack [] 48 says 0 ∷ 48 ∷ 23 ∷ []) ∷ (prepare_reply rack [] 47 says 9 ∷ [])
    -- "The table's order is the order of checks": of laying out, and of preparing, which equalises first
    ∷ (lay_out_reply (settings 15 100) (waits 101) 0 says 7 ∷ [])
    ∷ (prepare_reply (settings 15 100) (waits 100) 0 says 7 ∷ []) ∷ (prepare_reply (settings 15 100) (waits 101) 0 says 8 ∷ [])
    -- "variables not 16, inputs not 8, outputs not 8 values and 8 marks, or image buffer not 72 bytes"
    ∷ (run_reply fit says 0 ∷ 23 ∷ 0 ∷ []) ∷ (run_reply (lent 17 8 8 8) says 10 ∷ [])
    ∷ (run_reply (lent 16 7 8 8) says 10 ∷ []) ∷ (run_reply (lent 16 8 9 8) says 10 ∷ []) ∷ (run_reply (lent 16 8 8 7) says 10 ∷ [])
    ∷ (stop_reply fit (junk 71) 23 says 10 ∷ []) ∷ (resume_reply fit (junk 73) says 10 ∷ [])
    -- "image's index not just after a SAVE, or tick above P"
    ∷ (resume_reply fit (image 2 13) says 0 ∷ 23 ∷ 0 ∷ []) ∷ (resume_reply fit (image 1 13) says 11 ∷ [])
    ∷ (resume_reply fit (image 2 100) says 0 ∷ 110 ∷ 0 ∷ []) ∷ (resume_reply fit (image 2 101) says 11 ∷ [])
    -- "stop tick at or past the run's end"
    ∷ (stop_reply fit (junk 72) 22 says 0 ∷ 22 ∷ 0 ∷ 1 ∷ []) ∷ (stop_reply fit (junk 72) 23 says 12 ∷ [])
    ∷ []

pub limits_answered : Answered limits
unfolding
    limits first_records records bytes settings_of bad_settings linearise stack_of tree_of file_tree effect equalise before last_value layout
    total image_bytes image_of take_up fields_fit scan fault reading time_reply equalised_tree equalise_reply laid_tree lay_out_reply prepare_reply
    ready steps_of run_reply image_at stop_reply taken_up resume_reply
limits_answered = refl
