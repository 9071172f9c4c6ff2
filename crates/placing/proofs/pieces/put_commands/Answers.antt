-- Two or three pieces: the buffer is lent whole to the first, and what is left of it to the others.
use Rattle.std.proofs.Common.{◌+◌, ◌++◌, refl}
use Rattle.model.specs.{Records.record_bytes, Trees.beat, Trees.save, Trees.act_rec}
use Rattle.records.proofs.Over.{Part, back, part_fits, part_fits_last, part_lent}
use Rattle.records.proofs.Laying.{record_wrote, wrote_last}
use Rattle.placing.proofs.PieceBytes.{save_bytes, due_bytes, due_fits, due_skipped, save_none, save_due_is}
use Rattle.placing.proofs.pieces.put_commands.Goals as goal
use Rattle.placing.proofs.pieces.put_commands.Goals.{After-put_skip-at, After-put_bare, Else-s-gt0}

-- the SKIP is laid
skipped : (c : After-put_skip-at)
    → Part (due_bytes c.args.rack.now c.args.s) (record_bytes (act_rec (beat 1)) ++ save_bytes c.args.s.windows_left) c.args.out.now
    c.put_skip-at.new.out c.put_skip-at.result
skipped c = due_skipped c.requires.0 c.args.out.now c.requires.1 c.put_skip-at.ensures

-- and the BEAT
beaten : (c : After-put_bare)
    → Part (due_bytes c.args.rack.now c.args.s) (save_bytes c.args.s.windows_left) c.args.out.now
    (back c.put_skip-at.new.out c.put_skip-at.result c.put_bare.new.out) (c.put_skip-at.result + 12)
beaten c =
    part_lent (record_bytes (act_rec (beat 1))) (due_skipped c.requires.0 c.args.out.now c.requires.1 c.put_skip-at.ensures) c.put_bare.ensures refl

-- and a SAVE is due
saving : (c : Else-s-gt0)
    → Part (due_bytes c.args.rack.now c.args.s) (record_bytes (act_rec (save 0))) c.args.out.now
    (back c.put_skip-at.new.out c.put_skip-at.result c.put_bare.new.out) (c.put_skip-at.result + 12)
saving c =
    save_due_is _
    (part_lent (record_bytes (act_rec (beat 1))) (due_skipped c.requires.0 c.args.out.now c.requires.1 c.put_skip-at.ensures) c.put_bare.ensures refl)
    c.if-s-gt0.false

pub put_skip-at-requires : goal.put_skip-at-requires
put_skip-at-requires c = due_fits c.requires.0 c.args.out.now c.requires.1

pub put_bare-requires : goal.put_bare-requires
put_bare-requires c = part_fits (record_bytes (act_rec (beat 1))) _ (skipped (goal.at.put_bare-requires c).After-put_skip-at)

pub returns-then-s-gt0 : goal.returns-then-s-gt0
returns-then-s-gt0 c = save_none _ (beaten (goal.at.returns-then-s-gt0 c).After-put_bare) c.if-s-gt0.true

pub put_bare-requires-2 : goal.put_bare-requires-2
put_bare-requires-2 c = part_fits_last (saving (goal.at.put_bare-requires-2 c).Else-s-gt0)

pub returns : goal.returns
returns c = wrote_last (saving (goal.at.returns c).Else-s-gt0) (record_wrote (act_rec (save 0)) c.put_bare-2.ensures)
