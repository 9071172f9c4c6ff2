use Rattle.rack.proofs.Packing.{prepared_few}
use Rattle.rack.proofs.rack_prepare.Goals as goal

pub laid_word-requires : goal.laid_word-requires
laid_word-requires c = prepared_few _ _ _ _ c.prepare-laid.ensures.0
