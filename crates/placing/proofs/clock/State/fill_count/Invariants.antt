use Rattle.std.proofs.Common.{◌-◌}
use Rattle.placing.proofs.Windowing.{Filling}
use Rattle.placing.proofs.clock.State.fill_count.Given as goal

abbrev pub invariant-loop-s : goal.invariant-loop-s
invariant-loop-s l = Filling l.rack l.end l.initial.s l.s

abbrev pub decreases-loop-s : goal.decreases-loop-s
decreases-loop-s l = l.end - l.s.tick
