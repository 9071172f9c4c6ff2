use Rattle.std.proofs.Common.{arith}
use Rattle.reading.proofs.OpenBlocks.{end_early, end_inside}
use Rattle.reading.proofs.nesting.after_end.Goals as goal

pub returns-then-around-eq1 : goal.returns-then-around-eq1
returns-then-around-eq1 c = λ os e. end_early _ os e (omega arith)

pub returns : goal.returns
returns c = λ os e. end_inside _ os e (omega arith) (omega arith)
