use Rattle.layout.proofs.IdleLoops.{Scanning}
use Rattle.layout.proofs.skips.idle_rounds.Given as goal

abbrev pub invariant-loop-next : goal.invariant-loop-next
invariant-loop-next l = Scanning l.file l.i l.to l.period l.sum l.next
