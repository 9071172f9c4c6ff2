use Rattle.std.proofs.Common.{arith}
use Rattle.reading.proofs.ClosingTable.{filled_start, filled_asks, filled_next, filled_all}
use Rattle.reading.proofs.closings.fill.Goals as goal

pub loop-i-init : goal.loop-i-init
loop-i-init c = filled_start c.requires

pub closing_of-c-requires : goal.closing_of-c-requires
closing_of-c-requires c = filled_asks c.loop-i.invariant c.loop-i-test.true

pub offset_bounds-ends-i : goal.offset_bounds-ends-i
offset_bounds-ends-i c = record { fits = omega (arith, c.loop-i.invariant.fillable.few, c.loop-i.invariant.low) }

pub bounds-ends-i : goal.bounds-ends-i
bounds-ends-i c = omega (arith, c.loop-i.invariant.fillable.room, c.loop-i.invariant.low)

pub loop-i-preserved : goal.loop-i-preserved
loop-i-preserved c = filled_next c.loop-i.invariant c.loop-i-test.true c.closing_of-c.result c.closing_of-c.ensures

pub returns : goal.returns
returns c = filled_all c.loop-i.invariant (omega (arith, c.loop-i-test.false))
