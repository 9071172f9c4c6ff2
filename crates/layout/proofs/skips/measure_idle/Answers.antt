use Rattle.layout.proofs.IdleLoops.{idle_late, idle_ends}
use Rattle.layout.proofs.skips.measure_idle.Goals as goal

pub returns-then-rack-s : goal.returns-then-rack-s
returns-then-rack-s c = idle_late c.requires c.filled-s.ensures c.if-rack-s.true

pub returns : goal.returns
returns c = idle_ends c.requires c.filled-s.ensures c.if-rack-s.false c.stepped.ensures
