use Rattle.reading.proofs.ClosingTable.{Filled}
use Rattle.reading.proofs.closings.fill.Given as goal

abbrev pub invariant-loop-i : goal.invariant-loop-i
invariant-loop-i l = Filled l.file l.i l.to l.initial.ends l.ends
