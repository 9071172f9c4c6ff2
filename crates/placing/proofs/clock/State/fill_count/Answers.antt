use Rattle.std.proofs.Common.{ap, arith, ◌∙◌}
use Rattle.records.specs.Blocks.{skip_records}
use Rattle.placing.proofs.Windowing.{filling_start, filling_less, filling_next, filling_counted}
use Rattle.placing.proofs.clock.State.fill_count.Goals as goal

pub loop-s-init : goal.loop-s-init
loop-s-init c = filling_start c.requires

pub overflow_sub-end : goal.overflow_sub-end
overflow_sub-end c = c.loop-s.invariant.can.reaches

pub commanded-s-requires : goal.commanded-s-requires
commanded-s-requires c = c.loop-s.invariant.can.laying

pub loop-s-smaller : goal.loop-s-smaller
loop-s-smaller c = filling_less c.loop-s.invariant c.loop-s-test.true c.commanded-s.ensures.0 c.commanded-s.ensures.1

pub loop-s-preserved : goal.loop-s-preserved
loop-s-preserved c = filling_next c.loop-s.invariant c.loop-s-test.true c.commanded-s.ensures.0 c.commanded-s.ensures.1

pub overflow_sub-end-2 : goal.overflow_sub-end-2
overflow_sub-end-2 c = c.loop-s.invariant.can.reaches

pub overflow_add-s : goal.overflow_add-s
overflow_add-s c =
    let can = c.loop-s.invariant.can in omega (arith, can.laying.shows.waited, can.upto, can.laying.settings.short, can.reaches)

pub overflow_add-result : goal.overflow_add-result
overflow_add-result c = omega (arith, (filling_counted c.loop-s.invariant (c.skip_records.ensures ∙ ap skip_records (omega arith)) c.loop-s-test.false).few)

pub returns : goal.returns
returns c = filling_counted c.loop-s.invariant (c.skip_records.ensures ∙ ap skip_records (omega arith)) c.loop-s-test.false
