use Rattle.rack.proofs.Packing.{equalised_few}
use Rattle.rack.proofs.rack_equalise.Goals as goal

pub equalised_word-requires : goal.equalised_word-requires
equalised_word-requires c = equalised_few _ _ _ _ c.equalise-made.ensures.0
