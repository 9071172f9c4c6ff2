use Rattle.records.proofs.Copying.{Copied}
use Rattle.stepping.proofs.buffers.load_marks.Given as goal

abbrev pub invariant-loop-i : goal.invariant-loop-i
invariant-loop-i l = Copied l.marks l.initial.to l.to l.i
