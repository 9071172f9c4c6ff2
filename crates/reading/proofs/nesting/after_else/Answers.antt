use Rattle.std.proofs.Common.{arith}
use Rattle.reading.proofs.OpenBlocks.{else_misplaced, else_inside}
use Rattle.reading.proofs.nesting.after_else.Goals as goal

pub returns-then-around-eq0 : goal.returns-then-around-eq0
returns-then-around-eq0 c = λ os e. else_misplaced _ os e (omega arith)

pub returns : goal.returns
returns c = λ os e. else_inside _ os e (omega arith)
