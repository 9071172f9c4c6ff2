use Rattle.placing.proofs.Moves.{readied_past, readied_here}
use Rattle.placing.proofs.clock.State.readied.Goals as goal

pub returns-then-self-d : goal.returns-then-self-d
returns-then-self-d c = readied_past c.requires.0 _ c.if-self-d.true c.requires.2 c.commanded.ensures.0 c.commanded.ensures.1

pub returns : goal.returns
returns c = readied_here c.requires.0 _ c.requires.1 c.if-self-d.false
