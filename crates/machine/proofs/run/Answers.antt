use Rattle.std.proofs.Common.{false, ◌≡◌, Result}
use Rattle.laws.proofs.Exits.{exits}
use Rattle.model.specs.declared.{Ran.Ran, Refusal.Refusal}
use Rattle.model.specs.{Answers.ran, Replies.loan, Replies.run_reply, Replies.run_buffers, Replies.buffers_of}
use Rattle.machine.proofs.{Whole.lent, Whole.cleared_ready, Whole.cleared_run, Replies.is_ready, Replies.run_refused, Replies.run_finished}
use Rattle.machine.proofs.run.Goals as goal

pub clear-requires : goal.clear-requires
clear-requires c =
    let a = c.args in
    let L = lent (is_ready a.settings.now a.form a.file.now a.variables.now a.inputs.now a.levels.now a.marks.now false c.bad_buffers-bad.ensures c.in_ok-rack.ensures) in
    (L.levels, L.marks)

pub run_whole-end-requires : goal.run_whole-end-requires
run_whole-end-requires c =
    let a = c.args in
    cleared_ready (is_ready a.settings.now a.form a.file.now a.variables.now a.inputs.now a.levels.now a.marks.now false c.bad_buffers-bad.ensures c.in_ok-rack.ensures)
    c.clear.ensures.0 c.clear.ensures.1

pub returns-in_err-rack : goal.returns-in_err-rack
returns-in_err-rack c =
    let a = c.args in
    let l = loan a.settings.now a.form a.file.now a.variables.now a.inputs.now a.levels.now a.marks.now in
    exits (λ (r : Result Ran Refusal). (ran r ≡ run_reply l) × (buffers_of a.variables.now a.levels.now a.marks.now ≡ run_buffers l)) c.from_residual.ensures.1
    (run_refused _ _ _ _ _ _ _ c.bad_buffers-bad.ensures c.in_err-rack.ensures)

pub returns : goal.returns
returns c =
    run_finished _ _ _ _ _ _ _ c.bad_buffers-bad.ensures c.in_ok-rack.ensures
    (cleared_run c.clear.ensures.0 c.clear.ensures.1 c.run_whole-end.ensures)
