use Rattle.std.proofs.Common.{arith}
use Rattle.records.proofs.Copying.{copied_start, copied_step, copied_end}
use Rattle.stepping.proofs.buffers.load_marks.Goals as goal

pub loop-i-init : goal.loop-i-init
loop-i-init c = copied_start c.args.marks.now c.args.to.now

pub loop-i-preserved : goal.loop-i-preserved
loop-i-preserved c =
    rw c.from.ensures (copied_step c.requires c.loop-i.invariant (omega (arith, c.requires, c.loop-i.auto.to, c.loop-i-test.true)))

pub returns : goal.returns
returns c = copied_end c.requires c.loop-i.invariant (omega (arith, c.requires, c.loop-i.auto.to, c.loop-i-test.false))
