use Rattle.levels.proofs.SureWrites.{Sure}
use Rattle.levels.proofs.surely_writes.Given as goal

abbrev pub invariant-loop-i : goal.invariant-loop-i
invariant-loop-i l = Sure l.task l.n l.i l.sure
