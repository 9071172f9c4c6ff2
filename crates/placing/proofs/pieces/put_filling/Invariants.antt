use Rattle.std.proofs.Common.{◌-◌}
use Rattle.placing.proofs.WritingWindows.{WritingFilling}
use Rattle.placing.proofs.pieces.put_filling.Given as goal

abbrev pub invariant-loop-s : goal.invariant-loop-s
invariant-loop-s l = WritingFilling l.rack l.end l.from l.s l.initial.out l.out

abbrev pub decreases-loop-s : goal.decreases-loop-s
decreases-loop-s l = l.end - l.s.tick
