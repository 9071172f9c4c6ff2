use Rattle.std.proofs.Common.{arith}
use Rattle.levels.proofs.SureWrites.{write_before, while_before, closer_before, other_before}
use Rattle.levels.proofs.before.Goals as goal

pub returns-in-4 : goal.returns-in-4
returns-in-4 c x bs k e = write_before x bs k e c.in-4.is

pub returns-in-7 : goal.returns-in-7
returns-in-7 c x bs k e = while_before x bs k e c.in-7.is

pub returns-in-6 : goal.returns-in-6
returns-in-6 c x bs k e = closer_before x bs k e c.in-6.is

pub returns-in_default : goal.returns-in_default
returns-in_default c x bs k e = other_before x bs k e c.requires.0 (omega arith) (omega arith) (omega arith) (λ o. omega arith)
