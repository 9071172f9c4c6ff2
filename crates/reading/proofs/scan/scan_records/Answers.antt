use Rattle.std.proofs.Common.{arith}
use Rattle.laws.proofs.Exits.{exits}
use Rattle.reading.specs.Scanning.{ScansRecords}
use Rattle.reading.proofs.Scanning.{left_start, left_small, left_refused, left_next, left_sound, left_open}
use Rattle.reading.proofs.scan.scan_records.Goals as goal

pub loop-i-init : goal.loop-i-init
loop-i-init c = left_start _ _

pub check_record-requires : goal.check_record-requires
check_record-requires c = left_small c.loop-i.invariant

pub returns-in_err-around : goal.returns-in_err-around
returns-in_err-around c =
    exits (ScansRecords c.args.form c.args.file.now) c.from_residual.ensures.1
    (left_refused c.loop-i.invariant (omega arith) c.record_at.ensures c.check_record.ensures c.in_err-around.was)

pub loop-i-preserved : goal.loop-i-preserved
loop-i-preserved c = left_next c.loop-i.invariant (omega arith) c.record_at.ensures c.check_record.ensures c.in_ok-around.was

pub returns-then-around-eq0 : goal.returns-then-around-eq0
returns-then-around-eq0 c = left_sound c.loop-i.invariant (omega arith) (omega arith)

pub returns : goal.returns
returns c = left_open c.loop-i.invariant (omega arith) (omega arith)
