use Rattle.reading.proofs.Scanning.{Left}
use Rattle.reading.proofs.scan.scan_records.Given as goal

abbrev pub invariant-loop-i : goal.invariant-loop-i
invariant-loop-i l = Left l.form l.file l.n l.i l.around
