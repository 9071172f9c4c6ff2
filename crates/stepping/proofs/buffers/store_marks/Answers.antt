use Rattle.std.proofs.Common.{arith}
use Rattle.records.proofs.Copying.{copied_start, copied_step, copied_end}
use Rattle.stepping.proofs.buffers.store_marks.Goals as goal

pub loop-i-init : goal.loop-i-init
loop-i-init c = copied_start c.args.from.now c.args.marks.now

pub loop-i-preserved : goal.loop-i-preserved
loop-i-preserved c =
    copied_step c.requires.0 c.loop-i.invariant (omega (arith, c.requires.0, c.loop-i.auto.marks, c.loop-i-test.true))

pub returns : goal.returns
returns c = copied_end c.requires.0 c.loop-i.invariant (omega (arith, c.requires.0, c.loop-i.auto.marks, c.loop-i-test.false))
