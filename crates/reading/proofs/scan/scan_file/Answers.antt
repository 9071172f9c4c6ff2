use Rattle.std.proofs.Common.{arith}
use Rattle.reading.proofs.Scanning.{uneven_refused, long_refused, whole_scanned}
use Rattle.reading.proofs.scan.scan_file.Goals as goal

pub returns-then-file-ne0 : goal.returns-then-file-ne0
returns-then-file-ne0 c = uneven_refused (λ h. omega arith)

pub returns-then-limits_of-file : goal.returns-then-limits_of-file
returns-then-limits_of-file c = long_refused (omega (arith, c.limits_of.ensures.0))

pub returns : goal.returns
returns c = whole_scanned (omega arith) (omega (arith, c.limits_of.ensures.0)) c.scan_records.ensures
