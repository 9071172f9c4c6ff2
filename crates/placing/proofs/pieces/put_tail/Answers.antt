-- Two pieces: the buffer is lent whole to the first, and what is left of it to the second.
use Rattle.std.proofs.Common.{◌+◌}
use Rattle.records.specs.Blocks.{skip_bytes}
use Rattle.records.proofs.Over.{part_first}
use Rattle.placing.proofs.PieceBytes.{beat_laid}
use Rattle.placing.proofs.pieces.put_tail.Goals as goal

pub returns : goal.returns
returns c =
    let skipped = part_first (skip_bytes (c.args.s.wait + c.args.s.ticks_left)) c.requires.2 c.put_skip-at.ensures.laid c.put_skip-at.ensures.count in
    beat_laid skipped c.last_value.ensures c.put_bare.ensures
