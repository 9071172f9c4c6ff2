use Rattle.std.proofs.Common.{Result}
use Rattle.laws.proofs.Exits.{exits}
use Rattle.model.specs.declared.{Stopped.Stopped, Refusal.Refusal}
use Rattle.machine.proofs.Replies.{Until, is_ready, image_lent, until_refused, until_finished}
use Rattle.machine.proofs.run_until.Goals as goal

pub run_until_ready-requires : goal.run_until_ready-requires
run_until_ready-requires c = (
  is_ready _ _ _ _ _ _ _ _ c.bad_buffers-bad.ensures c.in_ok-rack.ensures,
  image_lent
      c.args.settings.now c.args.form c.args.file.now c.args.variables.now c.args.inputs.now c.args.levels.now c.args.marks.now c.args.image.now
      c.bad_buffers-bad.ensures c.in_ok-rack.ensures,
)

pub returns-in_err-rack : goal.returns-in_err-rack
returns-in_err-rack c =
    let a = c.args in
    exits (λ (r : Result Stopped Refusal). Until a.settings.now a.form a.file.now a.variables.now a.inputs.now a.levels.now a.marks.now a.image.now
    c.bad_buffers-bad.ensures a.stop r a.variables.now a.levels.now a.marks.now a.image.now) c.from_residual.ensures.1
    (until_refused _ _ _ _ _ _ _ _ c.bad_buffers-bad.ensures _ c.in_err-rack.ensures)

pub returns : goal.returns
returns c = until_finished _ _ _ _ _ _ _ _ c.bad_buffers-bad.ensures _ c.in_ok-rack.ensures c.run_until_ready.ensures
