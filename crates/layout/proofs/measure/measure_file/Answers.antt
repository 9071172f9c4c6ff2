-- Tick 0 has its commands, and the file's block is measured after them.
use Rattle.laws.proofs.Exits.{exits_none}
use Rattle.layout.specs.Clocked.{FileClocked}
use Rattle.layout.proofs.WholeClocked.{opening_late, file_lent, file_up, file_done}
use Rattle.layout.proofs.measure.measure_file.Goals as goal

pub returns-in_err-state : goal.returns-in_err-state
returns-in_err-state c =
    exits_none (FileClocked c.args.file.now c.args.rack.now c.args.meets.now c.args.meets.now) c.from_residual.ensures
    (opening_late c.requires.1 c.commanded.ensures.0 c.args.file.now c.in_err-state.ensures)

pub measure_block-requires : goal.measure_block-requires
measure_block-requires c =
    file_lent c.requires.1 c.commanded.ensures.0 c.args.file.now c.requires.0 c.in_ok-state.ensures

pub returns-in_err-measure_block : goal.returns-in_err-measure_block
returns-in_err-measure_block c =
    exits_none (FileClocked c.args.file.now c.args.rack.now c.args.meets.now c.measure_block.new.meets) c.from_residual-in_err-measure_block.ensures
    (file_up c.requires.1 c.commanded.ensures.0 c.args.file.now c.requires.0 c.in_ok-state.ensures c.in_err-measure_block.ensures)

pub returns : goal.returns
returns c =
    file_done c.requires.1 c.commanded.ensures.0 c.args.file.now c.requires.0 c.in_ok-state.ensures c.in_ok-measure_block.ensures.0
