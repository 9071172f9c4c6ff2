use Rattle.std.proofs.Common.{arith}
use Rattle.placing.proofs.Writing.{writing_upto}
use Rattle.placing.proofs.WritingWindows.{filling_start, filling_at, filling_less, filling_fit, filling_next, filling_laid}
use Rattle.placing.proofs.pieces.put_filling.Goals as goal

pub loop-s-init : goal.loop-s-init
loop-s-init c = filling_start c.requires.0 c.requires.1

pub overflow_sub-end : goal.overflow_sub-end
overflow_sub-end c = c.loop-s.invariant.can.reaches

pub bytes_between-at-requires : goal.bytes_between-at-requires
bytes_between-at-requires c = writing_upto c.loop-s.invariant.writing

pub commanded-next-requires : goal.commanded-next-requires
commanded-next-requires c = c.loop-s.invariant.can.laying

pub slice_bounds-put_commands-count : goal.slice_bounds-put_commands-count
slice_bounds-put_commands-count c = filling_at c.loop-s.invariant c.bytes_between-at.ensures

pub slice_bounds-put_commands-start : goal.slice_bounds-put_commands-start
slice_bounds-put_commands-start c = filling_at c.loop-s.invariant c.bytes_between-at.ensures

pub put_commands-requires : goal.put_commands-requires
put_commands-requires c = (
  c.loop-s.invariant.can.laying,
  filling_fit c.loop-s.invariant c.loop-s-test.true c.commanded-next.ensures.0 c.commanded-next.ensures.1 c.bytes_between-at.ensures,
)

pub loop-s-smaller : goal.loop-s-smaller
loop-s-smaller c = filling_less c.loop-s.invariant c.loop-s-test.true c.commanded-next.ensures.0 c.commanded-next.ensures.1

pub loop-s-preserved : goal.loop-s-preserved
loop-s-preserved c =
    filling_next c.loop-s.invariant c.loop-s-test.true c.commanded-next.ensures.0 c.commanded-next.ensures.1 c.bytes_between-at.ensures
    c.put_commands.ensures

pub overflow_sub-end-2 : goal.overflow_sub-end-2
overflow_sub-end-2 c = c.loop-s.invariant.can.reaches

pub idled-requires : goal.idled-requires
idled-requires c =
    let w = c.loop-s.invariant.can in omega (arith, c.loop-s-test.false, w.reaches, w.upto, w.laying.settings.short, w.laying.shows.waited)

pub returns : goal.returns
returns c = filling_laid c.loop-s.invariant c.loop-s-test.false c.idled.ensures
