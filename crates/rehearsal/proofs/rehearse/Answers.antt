use Rattle.std.proofs.Common.{sym}
use lib.Seq.{length-take-le}
use Rattle.laws.proofs.Exits.{exits}
use Rattle.model.specs.Rehearsal.{set_of, Rehearses}
use Rattle.rehearsal.proofs.Preparing.{good_sets, rehearse_refused, file_fits, rehearse_bad, rehearse_done}
use Rattle.rehearsal.proofs.rehearse.Goals as goal

pub returns-in_err-made : goal.returns-in_err-made
returns-in_err-made c =
    let a = c.args in
    let x = set_of a.one.now a.one_inputs.now in
    let y = set_of a.two.now a.two_inputs.now in
    exits (Rehearses a.settings.now a.task.now x y a.stop) c.from_residual.ensures.1
    (rehearse_refused a.settings.now a.task.now x y a.stop _ c.in_err-made.ensures.0)

pub returns-then-bad_sets : goal.returns-then-bad_sets
returns-then-bad_sets c =
    let a = c.args in
    rehearse_bad a.settings.now a.task.now (set_of a.one.now a.one_inputs.now) (set_of a.two.now a.two_inputs.now) a.stop
    c.in_ok-made.ensures.0 c.in_ok-made.ensures.1 c.bad_sets.ensures c.if-bad_sets.true

pub slice_bounds-laid-end : goal.slice_bounds-laid-end
slice_bounds-laid-end c =
    let a = c.args in
    file_fits a.settings.now a.task.now (set_of a.one.now a.one_inputs.now) (set_of a.two.now a.two_inputs.now) a.stop
    c.in_ok-made.ensures.0 c.in_ok-made.ensures.1 c.prepare.auto.out

pub slice_bounds-rehearse_laid-end : goal.slice_bounds-rehearse_laid-end
slice_bounds-rehearse_laid-end c =
    let a = c.args in
    sym (length-take-le _ _ (file_fits a.settings.now a.task.now (set_of a.one.now a.one_inputs.now) (set_of a.two.now a.two_inputs.now) a.stop
    c.in_ok-made.ensures.0 c.in_ok-made.ensures.1 c.prepare.auto.out))

pub rehearse_laid-requires : goal.rehearse_laid-requires
rehearse_laid-requires c = good_sets c.bad_sets.ensures c.if-bad_sets.false

pub returns : goal.returns
returns c =
    let a = c.args in
    rehearse_done a.settings.now a.task.now (set_of a.one.now a.one_inputs.now) (set_of a.two.now a.two_inputs.now) a.stop
    c.in_ok-made.ensures.0 c.in_ok-made.ensures.1 c.bad_sets.ensures c.if-bad_sets.false c.rehearse_laid.ensures
