use Rattle.laws.proofs.Exits.{exits_none}
use Rattle.timing.specs.Blocks.{BlockTimes}
use Rattle.timing.proofs.Sums.{fills_over, fills_times}
use Rattle.timing.proofs.blocks.block_time.Goals as goal

pub returns-in_err-whole : goal.returns-in_err-whole
returns-in_err-whole c =
    exits_none (BlockTimes c.args.file.now c.args.from c.args.to c.args.depth c.args.rack) c.from_residual.ensures
    (fills_over c.requires c.in_err-whole.ensures)

pub returns : goal.returns
returns c = fills_times c.requires c.in_ok-whole.ensures
