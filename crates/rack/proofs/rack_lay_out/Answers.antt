use Rattle.rack.proofs.Packing.{laid_few}
use Rattle.rack.proofs.rack_lay_out.Goals as goal

pub laid_word-requires : goal.laid_word-requires
laid_word-requires c = laid_few _ _ _ _ c.lay_out-laid.ensures.0
