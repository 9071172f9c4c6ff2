-- Three pieces: the buffer is lent whole to the first, and what is left of it to the others.
use Rattle.std.proofs.Common.{◌+◌}
use Rattle.model.specs.{Records.record_bytes, Layout.before}
use Rattle.records.specs.{Records.record_of, Blocks.skip_bytes}
use Rattle.records.proofs.Over.{Part, back, part_last}
use Rattle.records.proofs.Laying.{wrote_next}
use Rattle.placing.specs.Placed.{step_bytes}
use Rattle.placing.proofs.PieceBytes.{piece_laid}
use Rattle.placing.proofs.pieces.put_step.Goals as goal
use Rattle.placing.proofs.pieces.put_step.Goals.{After-put_skip}

-- what stands before the step is laid, and the ticks that wait then
waited : (c : After-put_skip)
    → Part (step_bytes c.args.rack.now c.args.from c.args.d (record_of c.args.r)) (record_bytes (record_of c.args.r)) c.args.out.now
    (back c.put_before-at.new.out c.put_before-at.result c.put_skip.new.out) (c.put_before-at.result + c.put_skip.result)
waited c =
    let a = c.args in
    wrote_next (skip_bytes c.readied-s.result.wait)
    (piece_laid a.from (before a.rack.now a.from.tick a.d) (record_of a.r) a.out.now c.requires.3 c.put_before-at.ensures
    c.readied-s.ensures.after.wait)
    c.put_skip.ensures

pub returns : goal.returns
returns c = record { state = c.stepped.ensures; wrote = part_last (waited (goal.at.returns c).After-put_skip) c.put_record.ensures }
