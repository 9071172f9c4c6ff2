use Rattle.std.proofs.Common.{arith}
use Rattle.placing.proofs.Windowing.{skipping_start, skipping_more, skipping_laying, skipping_less, skipping_next, skipping_late, skipping_few, skipping_last}
use Rattle.placing.proofs.clock.State.filled.Goals as goal

pub loop-s-init : goal.loop-s-init
loop-s-init c = skipping_start c.requires

pub overflow_sub-k : goal.overflow_sub-k
overflow_sub-k c = omega (arith, skipping_more c.loop-s.invariant c.loop-s-test.true)

pub commanded-s-requires : goal.commanded-s-requires
commanded-s-requires c = skipping_laying c.loop-s.invariant c.loop-s-test.true

pub loop-s-smaller : goal.loop-s-smaller
loop-s-smaller c = skipping_less c.loop-s.invariant c.loop-s-test.true c.commanded-s.ensures.0 c.commanded-s.ensures.1

pub loop-s-preserved : goal.loop-s-preserved
loop-s-preserved c = skipping_next c.loop-s.invariant c.loop-s-test.true c.commanded-s.ensures.0 c.commanded-s.ensures.1

pub returns-then-rack-s : goal.returns-then-rack-s
returns-then-rack-s c = skipping_late c.loop-s.invariant c.if-rack-s.true

pub idled-requires : goal.idled-requires
idled-requires c =
    let h = skipping_few c.loop-s.invariant c.loop-s-test.false c.if-rack-s.false in
    omega (
      arith,
      c.loop-s.invariant.settings.short,
      c.loop-s.invariant.settings.narrow,
      c.loop-s.invariant.after.shows.below,
      c.loop-s.invariant.after.shows.waited,
    )

pub returns : goal.returns
returns c = skipping_last c.loop-s.invariant c.loop-s-test.false c.if-rack-s.false c.idled.ensures
