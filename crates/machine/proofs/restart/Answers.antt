use Rattle.std.proofs.Common.{false, ◌≡◌, Result}
use Rattle.laws.proofs.Exits.{exits}
use Rattle.model.specs.declared.{Ran.Ran, Refusal.Refusal}
use Rattle.model.specs.{Answers.ran, Replies.loan, Replies.restart_reply, Replies.restart_buffers, Replies.buffers_of}
use Rattle.machine.proofs.Replies.{is_ready, restart_refused, restart_finished}
use Rattle.machine.proofs.restart.Goals as goal

pub run_whole-e-requires : goal.run_whole-e-requires
run_whole-e-requires c = is_ready _ _ _ _ _ _ _ false c.bad_buffers-bad.ensures c.in_ok-rack.ensures

pub returns-in_err-rack : goal.returns-in_err-rack
returns-in_err-rack c =
    let a = c.args in
    let l = loan a.settings.now a.form a.file.now a.variables.now a.inputs.now a.levels.now a.marks.now in
    exits (λ (r : Result Ran Refusal). (ran r ≡ restart_reply l) × (buffers_of a.variables.now a.levels.now a.marks.now ≡ restart_buffers l))
    c.from_residual.ensures.1 (restart_refused _ _ _ _ _ _ _ c.bad_buffers-bad.ensures c.in_err-rack.ensures)

pub returns : goal.returns
returns c = restart_finished _ _ _ _ _ _ _ c.bad_buffers-bad.ensures c.in_ok-rack.ensures c.run_whole-e.ensures
