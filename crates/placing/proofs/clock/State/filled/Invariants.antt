use Rattle.std.proofs.Common.{◌+◌, ◌-◌}
use Rattle.placing.proofs.Windowing.{Skipping}
use Rattle.placing.proofs.clock.State.filled.Given as goal

abbrev pub invariant-loop-s : goal.invariant-loop-s
invariant-loop-s l = Skipping l.rack l.count l.initial.s l.s l.k

abbrev pub decreases-loop-s : goal.decreases-loop-s
decreases-loop-s l = l.rack.period + 1 - l.s.tick
