use Rattle.records.proofs.Copying.{Copied}
use Rattle.stepping.proofs.buffers.store_marks.Given as goal

abbrev pub invariant-loop-i : goal.invariant-loop-i
invariant-loop-i l = Copied l.from l.initial.marks l.marks l.i
