use Rattle.reading.proofs.OpenBlocks.{if_opens, loop_opens}
use Rattle.reading.proofs.nesting.nest.Goals as goal

pub returns-in-5 : goal.returns-in-5
returns-in-5 c = λ os e. if_opens _ _ os e c.in-5.is

pub returns-in-7 : goal.returns-in-7
returns-in-7 c = λ os e. loop_opens _ _ os e c.in-7.is
