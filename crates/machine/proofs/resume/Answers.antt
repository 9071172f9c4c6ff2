use Rattle.std.proofs.Common.{Result}
use Rattle.laws.proofs.Exits.{exits}
use Rattle.model.specs.declared.{Ran.Ran, Refusal.Refusal}
use Rattle.machine.proofs.Replies.{From, is_ready, image_lent, resume_refused, resume_finished}
use Rattle.machine.proofs.resume.Goals as goal

pub resume_ready-requires : goal.resume_ready-requires
resume_ready-requires c = (
  is_ready _ _ _ _ _ _ _ _ c.bad_buffers-bad.ensures c.in_ok-rack.ensures,
  image_lent
      c.args.settings.now c.args.form c.args.file.now c.args.variables.now c.args.inputs.now c.args.levels.now c.args.marks.now c.args.image.now
      c.bad_buffers-bad.ensures c.in_ok-rack.ensures,
)

pub returns-in_err-rack : goal.returns-in_err-rack
returns-in_err-rack c =
    let a = c.args in
    exits (λ (r : Result Ran Refusal). From a.settings.now a.form a.file.now a.variables.now a.inputs.now a.levels.now a.marks.now a.image.now
    c.bad_buffers-bad.ensures r a.variables.now a.levels.now a.marks.now) c.from_residual.ensures.1
    (resume_refused _ _ _ _ _ _ _ _ c.bad_buffers-bad.ensures c.in_err-rack.ensures)

pub returns : goal.returns
returns c = resume_finished _ _ _ _ _ _ _ _ c.bad_buffers-bad.ensures c.in_ok-rack.ensures c.resume_ready.ensures
