-- The lettered bench tasks A to K give what document 01 says, and demand 3 applies to task K: its conditions hold there. The list and the
-- computation stand in `model`, so that edits of the definitions there are tried against them.
use native.Mathlib.Omega.{arith}
use mathlib.Core.{Path.◌≡◌, Path.refl, Bool.true}
use Rattle.model.specs.{Records.first_records, Records.records, Records.bytes, Runs.holds, Runs.result_of, Runs.effect}
use Rattle.model.specs.{Refusals.fields_fit, Refusals.scan, Refusals.fault}
use Rattle.model.specs.{Settings.settings_of, Settings.bad_settings, Equalising.equalise, Answers.is_finished, Answers.value_at}
use Rattle.model.specs.Trees.{linearise, stack_of, tree_of, file_tree}
use Rattle.model.specs.Layout.{before, last_value, layout, total}
use Rattle.model.specs.Replies.{reading, equalised_tree, equalise_reply, equalise_out, laid_tree, lay_out_reply, lay_out_out, ready, steps_of, run_reply}
use Rattle.model.specs.Chain.{Chain, Lent, equalising, laying_out, whole_loan}
use Rattle.model.proofs.Bench.{lettered, Holds, bench, settings, factorial, chain}
use Rattle.theory.specs.Demand3.{StopUnseen}
use Rattle.theory.proofs.Demand3.{demand3}

pub bench_tasks : Holds lettered
bench_tasks = bench

-- task K stopped at 92
abbrev k : Chain
k = chain (record { rack = settings 20 200; task = factorial; input = 12 }) 92

lent : Lent k
lent = record {
  one_lent = record { sixteen = refl; eight = refl };
  two_lent = record { sixteen = refl; eight = refl };
  plain_one_lent = record { levels_eight = refl; marks_eight = refl };
  plain_two_lent = record { levels_eight = refl; marks_eight = refl };
  whole_lent = record { levels_eight = refl; marks_eight = refl };
  stopped_lent = record { levels_eight = refl; marks_eight = refl };
  image_lent = refl;
  spare_lent = refl;
}

equalised : is_finished (equalising k) ≡ true
unfolding
    first_records records settings_of bad_settings stack_of tree_of file_tree equalise fields_fit scan fault reading equalised_tree equalise_reply
equalised = refl

laid : is_finished (laying_out k) ≡ true
unfolding
    first_records records bytes settings_of bad_settings linearise stack_of tree_of file_tree equalise before last_value layout total fields_fit
    scan fault reading equalised_tree equalise_reply equalise_out laid_tree lay_out_reply
laid = refl

whole_tick : value_at 0 (run_reply (whole_loan k)) ≡ 143
unfolding
    first_records records bytes settings_of bad_settings linearise stack_of tree_of file_tree holds result_of effect equalise before last_value
    layout total fields_fit scan fault reading equalised_tree equalise_reply equalise_out laid_tree lay_out_reply lay_out_out ready steps_of run_reply
whole_tick = refl

pub task_k : StopUnseen k
task_k = (demand3 k lent equalised laid).stopped (omega (arith, whole_tick))
