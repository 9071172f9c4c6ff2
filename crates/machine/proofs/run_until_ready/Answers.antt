use Rattle.std.proofs.Common.{not, ap, ◌∙◌}
use Rattle.stepping.specs.Buffers.{with_variables}
use Rattle.machine.proofs.{Marks.zeros_bytes, Whole.left_bytes, Whole.lent, Whole.whole_started, Whole.stop_left, Whole.stop_late, Whole.stop_done}
use Rattle.machine.proofs.run_until_ready.Goals as goal

pub run_from-end-requires : goal.run_from-end-requires
run_from-end-requires c = whole_started c.requires.0

pub returns-then-not-was_cut : goal.returns-then-not-was_cut
returns-then-not-was_cut c =
    stop_late c.requires.0 c.run_from-end.ensures (c.load_variables.ensures ∙ ap (with_variables _) c.new-store.ensures) c.was_cut.ensures
    (ap not c.if-not-was_cut.true)

pub leave-requires : goal.leave-requires
leave-requires c =
    let k = c.load_variables.ensures ∙ ap (with_variables _) c.new-store.ensures in
    let L = lent c.requires.0 in (
      record { variables = L.variables; levels = L.levels; marks = L.marks },
      left_bytes (stop_left c.requires.0 c.run_from-end.ensures k) (zeros_bytes 8),
    )

pub returns : goal.returns
returns c =
    stop_done c.requires.0 c.run_from-end.ensures (c.load_variables.ensures ∙ ap (with_variables _) c.new-store.ensures) c.was_cut.ensures
    (ap not c.if-not-was_cut.false) c.leave.ensures c.leave_image-saved.ensures
