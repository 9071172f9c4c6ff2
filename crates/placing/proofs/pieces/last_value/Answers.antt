use Rattle.std.proofs.Common.{refl}
use Rattle.model.specs.Layout.{last_value}
use Rattle.placing.proofs.pieces.last_value.Goals as goal

pub returns : goal.returns
unfolding last_value
returns c = refl
