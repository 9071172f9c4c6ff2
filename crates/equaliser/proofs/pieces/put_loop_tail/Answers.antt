-- Four pieces: the buffer is lent whole to the first, and what is left of it to each of the others.
use Rattle.std.proofs.Common.{refl}
use Rattle.model.specs.Records.{record_bytes}
use Rattle.model.specs.Trees.{end_rec}
use Rattle.records.proofs.Over.{part_lent, part_last, part_count}
use Rattle.equaliser.proofs.PieceBytes.{skip_laid}
use Rattle.equaliser.proofs.pieces.put_loop_tail.Goals as goal

pub returns : goal.returns
returns c =
    let p = part_lent (record_bytes end_rec) (skip_laid c.args.body c.args.out.now c.requires c.put_bare.ensures c.put_skip-at.ensures)
    c.put_bare-2.ensures refl in
    record { laid = part_last p c.put_bare-3.ensures; count = part_count p refl }
