use Rattle.std.proofs.Common.{arith}
use Rattle.placing.proofs.Writing.{writing_upto}
use Rattle.placing.proofs.WritingWindows.{skips_start, skips_laying, skips_at, skips_less, skips_fit, skips_next, skips_laid}
use Rattle.placing.proofs.pieces.put_skips.Goals as goal

pub loop-s-init : goal.loop-s-init
loop-s-init c = skips_start c.requires.0 c.requires.1 c.requires.2

pub bytes_between-at-requires : goal.bytes_between-at-requires
bytes_between-at-requires c = writing_upto c.loop-s.invariant.writing

pub commanded-next-requires : goal.commanded-next-requires
commanded-next-requires c = skips_laying c.loop-s.invariant

pub slice_bounds-put_commands-count : goal.slice_bounds-put_commands-count
slice_bounds-put_commands-count c = skips_at c.loop-s.invariant c.bytes_between-at.ensures

pub slice_bounds-put_commands-start : goal.slice_bounds-put_commands-start
slice_bounds-put_commands-start c = skips_at c.loop-s.invariant c.bytes_between-at.ensures

pub put_commands-requires : goal.put_commands-requires
put_commands-requires c = (
  skips_laying c.loop-s.invariant,
  skips_fit c.loop-s.invariant c.loop-s-test.true c.commanded-next.ensures.0 c.commanded-next.ensures.1 c.bytes_between-at.ensures,
)

pub loop-s-smaller : goal.loop-s-smaller
loop-s-smaller c = skips_less c.loop-s.invariant c.loop-s-test.true c.commanded-next.ensures.0 c.commanded-next.ensures.1

pub loop-s-preserved : goal.loop-s-preserved
loop-s-preserved c =
    skips_next c.loop-s.invariant c.loop-s-test.true c.commanded-next.ensures.0 c.commanded-next.ensures.1 c.bytes_between-at.ensures
    c.put_commands.ensures

pub idled-requires : goal.idled-requires
idled-requires c =
    let w = c.loop-s.invariant in
    omega (arith, c.loop-s-test.false, w.soon, w.settings.short, w.settings.narrow, w.writing.after.shows.below, w.writing.after.shows.waited)

pub returns : goal.returns
returns c = skips_laid c.loop-s.invariant c.loop-s-test.false c.idled.ensures
