-- Three pieces: the buffer is lent whole to the first, and what is left of it to the others.
use Rattle.std.proofs.Common.{ap, ◌∙◌, arith, ℕ, ◌+◌, ◌-◌, ◌++◌, sym, subst}
use Rattle.model.specs.declared.Settings.{Settings}
use Rattle.model.specs.Records.{Rec, rec, record_bytes}
use Rattle.model.specs.{Trees.Block, Layout.fill}
use Rattle.records.specs.Blocks.{skip_bytes, skip_records}
use Rattle.records.proofs.Over.{Part, back, part_at, part_room, part_fits, part_fits_last, part_last}
use Rattle.records.proofs.Laying.{wrote_next}
use Rattle.placing.specs.declared.clock.State.{State}
use Rattle.placing.specs.{Placed.closing_bytes, Placed.Closed}
use Rattle.placing.proofs.PieceBytes.{lays_wrote, piece_fits, piece_laid, settled_few, closing}
use Rattle.placing.proofs.pieces.close_side.Goals as goal
use Rattle.placing.proofs.pieces.close_side.Goals.{After-bytes_between-at, After-put_skip, After-skip_records}

-- the record that closes a side
abbrev bare : ℕ → Rec
bare k = rec k 0 0 0 0 0

-- the SKIPs of the side
abbrev filling : Settings → State → ℕ → Block
filling σ s e = fill σ (e - s.tick) s.tick e

-- they are laid, and their bytes counted
filled : (c : After-bytes_between-at)
    → Part (closing_bytes c.args.rack.now c.args.s c.args.end (bare c.args.kind)) (skip_bytes c.put_filling-f.result.wait ++ record_bytes (bare c.args.kind))
    c.args.out.now c.put_filling-f.new.out c.bytes_between-at.result
filled c =
    let a = c.args in
    let b = filling a.rack.now a.s a.end in
    piece_laid a.s b (bare a.kind) a.out.now c.requires.room
    (lays_wrote b c.put_filling-f.ensures (settled_few a.s.records a.s.wait b c.requires.few) c.bytes_between-at.ensures) c.put_filling-f.ensures.after.wait

-- and so are the ticks that wait then
waited : (c : After-put_skip)
    → Part (closing_bytes c.args.rack.now c.args.s c.args.end (bare c.args.kind)) (record_bytes (bare c.args.kind)) c.args.out.now
    (back c.put_filling-f.new.out c.bytes_between-at.result c.put_skip.new.out) (c.bytes_between-at.result + c.put_skip.result)
waited c =
    let a = c.args in
    let b = filling a.rack.now a.s a.end in
    wrote_next (skip_bytes c.put_filling-f.result.wait)
    (piece_laid a.s b (bare a.kind) a.out.now c.requires.room
    (lays_wrote b c.put_filling-f.ensures (settled_few a.s.records a.s.wait b c.requires.few) c.bytes_between-at.ensures)
    c.put_filling-f.ensures.after.wait)
    c.put_skip.ensures

pub put_filling-f-requires : goal.put_filling-f-requires
put_filling-f-requires c =
    let a = c.args in (
      c.requires.can,
      record {
        few = settled_few a.s.records a.s.wait (filling a.rack.now a.s a.end) c.requires.few;
        room = piece_fits a.s (filling a.rack.now a.s a.end) (bare a.kind) a.out.now c.requires.room;
      },
    )

pub slice_bounds-put_skip-count : goal.slice_bounds-put_skip-count
slice_bounds-put_skip-count c = part_at (filled (goal.at.slice_bounds-put_skip-count c).After-bytes_between-at)

pub slice_bounds-put_skip-start : goal.slice_bounds-put_skip-start
slice_bounds-put_skip-start c = part_at (filled (goal.at.slice_bounds-put_skip-start c).After-bytes_between-at)

pub put_skip-requires : goal.put_skip-requires
put_skip-requires c = part_fits (skip_bytes c.put_filling-f.result.wait) _ (filled (goal.at.put_skip-requires c).After-bytes_between-at)

pub overflow_add-last : goal.overflow_add-last
overflow_add-last c = omega (arith, part_room (waited (goal.at.overflow_add-last c).After-put_skip))

pub slice_bounds-put_bare-count : goal.slice_bounds-put_bare-count
slice_bounds-put_bare-count c = part_at (waited (goal.at.slice_bounds-put_bare-count c).After-put_skip)

pub slice_bounds-put_bare-start : goal.slice_bounds-put_bare-start
slice_bounds-put_bare-start c = part_at (waited (goal.at.slice_bounds-put_bare-start c).After-put_skip)

pub put_bare-requires : goal.put_bare-requires
put_bare-requires c = part_fits_last (waited (goal.at.put_bare-requires c).After-put_skip)

pub returns : goal.returns
returns c =
    let b = filling c.args.rack.now c.args.s c.args.end in
    record {
      closed = subst (Closed _ _ _) (sym c.back.ensures) (closing b c.put_filling-f.ensures.after c.requires.few (c.skip_records.ensures ∙ ap skip_records (omega arith)));
      wrote = part_last (waited (goal.at.returns c).After-put_skip) c.put_bare.ensures;
    }
