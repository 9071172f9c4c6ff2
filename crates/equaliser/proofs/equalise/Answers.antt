use Rattle.std.proofs.Common.{Result}
use Rattle.laws.proofs.Exits.{exits}
use Rattle.model.specs.declared.{Equalised.Equalised, Refusal.Refusal}
use Rattle.equaliser.proofs.Replies.{Replied, read_refused, sound_task, read_equalised}
use Rattle.equaliser.proofs.equalise.Goals as goal

pub returns-in_err-rack : goal.returns-in_err-rack
returns-in_err-rack c =
    exits (λ (r : Result Equalised Refusal). Replied c.args.settings.now c.args.task.now c.args.out.now r c.args.out.now) c.from_residual.ensures.1
    (read_refused _ _ _ _ c.in_err-rack.ensures)

pub equalise_sound-requires : goal.equalise_sound-requires
equalise_sound-requires c = sound_task _ _ _ c.in_ok-rack.ensures

pub returns : goal.returns
returns c = read_equalised _ _ _ _ _ _ c.in_ok-rack.ensures c.equalise_sound.ensures
