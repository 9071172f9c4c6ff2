-- A course that is steady, and suspect at a tick: with document 01's last value, never failed is all that holds.
use Prim.Native.Nat.{ℕ}
use mathlib.Core.Path.{◌≡◌, refl}
use mathlib.Core.List.{List, [], ◌∷◌, map}
use lib.ListN.{replicate}
use Rattle.model.specs.declared.Event.TheVariants.{Beat, Look, Reset}
use Rattle.model.specs.declared.Health.TheVariants.{Suspect, Failed}
use Rattle.model.specs.{Records.first_records, Records.records, Records.bytes, Settings.settings_of, Settings.bad_settings, Runs.effect}
use Rattle.model.specs.{Refusals.fields_fit, Refusals.scan, Refusals.fault, Answers.value_at, Answers.health_number}
use Rattle.model.specs.{Periods.Course, Periods.Steady, Periods.watched_from}
use Rattle.model.specs.Trees.{linearise, stack_of, tree_of, file_tree}
use Rattle.model.specs.Layout.{last_value, layout, total}
use Rattle.model.specs.Replies.{reading, laid_tree, lay_out_reply, lay_out_out, ready, steps_of, run_reply}
use Rattle.model.specs.Watching.{fresh_of, event_reply, event_table, status_reply, Call, table_after, own}
use Rattle.theory.specs.Watching.{NeverFailed}
use Rattle.theory.proofs.Watching.{watching}

-- all steps of 1 tick, H 3, P 4, and no task: BEATs of value 1 and 0 end at ticks 1 and 4 of each period
abbrev pub empty_course : Course
empty_course = record {
  settings = 1 ∷ 1 ∷ 1 ∷ 1 ∷ 1 ∷ 1 ∷ 3 ∷ 0 ∷ 4 ∷ 0 ∷ 0 ∷ 0 ∷ [];
  file = [];
  room = replicate 48 0;
  sets = λ n. record { variables = replicate 16 0; inputs = replicate 8 0 };
  outputs = λ n. record { levels = replicate 8 0; marks = replicate 8 0 };
  first = 0;
}

empty_steady : Steady empty_course
unfolding
    first_records records bytes settings_of bad_settings linearise stack_of tree_of file_tree effect last_value layout total fields_fit
    scan fault reading laid_tree lay_out_reply lay_out_out ready steps_of run_reply
empty_steady = record { laid_out = refl; ran = λ n. refl; whole = λ n. refl }

pub empty_never_failed : (a j r m : ℕ) → NeverFailed empty_course a j r m
empty_never_failed = watching.steady empty_course empty_steady

-- what the ticks 0 to 4 bring, with looks from tick 1 on, as calls for the one entry of a table
abbrev pub calls : List Call
calls = map (λ x. record { entry = 0; event = x }) (Reset 3 ∷ Beat 1 ∷ Look ∷ Beat 0 ∷ Look ∷ [])

pub empty_calls : own 0 calls ≡ watched_from empty_course 1 0 0 5
unfolding
    first_records records bytes settings_of bad_settings linearise stack_of tree_of file_tree effect last_value layout total fields_fit
    scan fault reading laid_tree lay_out_reply lay_out_out ready steps_of run_reply
empty_calls = refl

-- the last look finds it suspect, and one more would find it failed
pub empty_suspect : value_at 0 (status_reply (table_after (fresh_of 0 ∷ []) calls) 0) ≡ health_number Suspect
unfolding event_reply event_table status_reply
empty_suspect = refl

pub empty_one_more : value_at 0 (event_reply (table_after (fresh_of 0 ∷ []) calls) 0 Look) ≡ health_number Failed
unfolding event_reply event_table
empty_one_more = refl
