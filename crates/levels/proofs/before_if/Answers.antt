use Rattle.std.proofs.Common.{refl}
use Rattle.levels.proofs.SureWrites.{both_before, not_both_before}
use Rattle.levels.proofs.before_if.Goals as goal

pub returns-then-sure-eq3 : goal.returns-then-sure-eq3
returns-then-sure-eq3 c x bs k e = both_before x bs k e refl c.if-sure-eq3.true

pub returns : goal.returns
returns c x bs k e = not_both_before x bs k e refl c.if-sure-eq3.false
