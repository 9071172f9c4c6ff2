use Rattle.laws.proofs.Exits.{exits}
use Rattle.reading.specs.Answers.{Reads}
use Rattle.reading.proofs.Entry.{settings_refused, file_refused, both_read}
use Rattle.reading.proofs.read.Goals as goal

pub returns-in_err-rack : goal.returns-in_err-rack
returns-in_err-rack c =
    exits (Reads c.args.settings.now c.args.form c.args.file.now) c.from_residual.ensures.1 (settings_refused _ _ _ _ c.in_err-rack.ensures)

pub returns-in_err-scan_file : goal.returns-in_err-scan_file
returns-in_err-scan_file c =
    exits (Reads c.args.settings.now c.args.form c.args.file.now) c.from_residual-in_err-scan_file.ensures.1
    (file_refused _ _ _ _ c.in_ok-rack.ensures _ c.in_err-scan_file.ensures)

pub returns : goal.returns
returns c = both_read _ _ _ _ c.in_ok-rack.ensures c.in_ok-scan_file.ensures
