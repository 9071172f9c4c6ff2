use Rattle.laws.proofs.Exits.{exits}
use Rattle.layout.proofs.Replies.{sound_file, settings_in_range, Replied, read_refused, read_laid}
use Rattle.layout.proofs.lay_out.Goals as goal

pub lay_out_sound-requires : goal.lay_out_sound-requires
lay_out_sound-requires c = (sound_file _ _ _ c.in_ok-rack.ensures, settings_in_range _ _ _ c.in_ok-rack.ensures)

pub returns-in_err-rack : goal.returns-in_err-rack
returns-in_err-rack c =
    exits (λ r. Replied c.args.settings.now c.args.equalised.now c.args.out.now r c.args.out.now) c.from_residual.ensures.1
    (read_refused _ _ _ _ c.in_err-rack.ensures)

pub returns : goal.returns
returns c = read_laid _ _ _ _ _ _ c.in_ok-rack.ensures c.lay_out_sound.ensures
