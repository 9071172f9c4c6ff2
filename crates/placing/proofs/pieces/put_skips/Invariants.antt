use Rattle.std.proofs.Common.{◌+◌, ◌-◌}
use Rattle.placing.proofs.WritingWindows.{WritingSkips}
use Rattle.placing.proofs.pieces.put_skips.Given as goal

abbrev pub invariant-loop-s : goal.invariant-loop-s
invariant-loop-s l = WritingSkips l.rack l.count l.from l.s l.k l.initial.out l.out

abbrev pub decreases-loop-s : goal.decreases-loop-s
decreases-loop-s l = l.rack.period + 1 - l.s.tick
