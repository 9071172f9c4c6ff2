use Rattle.std.proofs.Common.{◌≡◌, ℕ, Result}
use Rattle.laws.proofs.Exits.{exits}
use Rattle.model.specs.declared.Refusal.{Refusal}
use Rattle.model.specs.{Answers.timed, Replies.time_reply}
use Rattle.timing.proofs.Replies.{refused_reply, timed_reply}
use Rattle.timing.proofs.time_file.Goals as goal

pub returns-in_err-rack : goal.returns-in_err-rack
returns-in_err-rack c =
    exits (λ (r : Result ℕ Refusal). timed r ≡ time_reply c.args.settings.now c.args.form c.args.file.now) c.from_residual.ensures.1
    (refused_reply _ _ _ _ c.in_err-rack.ensures)

pub returns : goal.returns
returns c = rw c.ok_or.ensures.value (timed_reply _ _ _ _ _ c.in_ok-rack.ensures c.block_time.ensures)
