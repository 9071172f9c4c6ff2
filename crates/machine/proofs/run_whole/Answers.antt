use Rattle.std.proofs.Common.{ap, ◌∙◌, rules}
use Rattle.stepping.specs.Buffers.{with_variables, with_outputs}
use Rattle.machine.proofs.Whole.{left_bytes, lent, whole_started, run_left, run_ran}
use Rattle.machine.proofs.run_whole.Goals as goal

pub run_from-end-requires : goal.run_from-end-requires
run_from-end-requires c = whole_started c.requires

pub leave-requires : goal.leave-requires
leave-requires c =
    let k = c.load_outputs.ensures ∙ ap (with_outputs _ _) (c.load_variables.ensures ∙ ap (with_variables _) c.new-store.ensures) in
    let L = lent c.requires in (
      record { variables = L.variables; levels = L.levels; marks = L.marks },
      left_bytes (run_left c.requires c.run_from-end.ensures k) (λ i. search rules),
    )

pub returns : goal.returns
returns c =
    let k = c.load_outputs.ensures ∙ ap (with_outputs _ _) (c.load_variables.ensures ∙ ap (with_variables _) c.new-store.ensures) in
    rw c.ended.ensures (run_ran c.requires c.run_from-end.ensures k c.leave.ensures)
