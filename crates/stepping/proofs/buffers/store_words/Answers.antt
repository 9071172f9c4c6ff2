use Rattle.stepping.proofs.BufferLaws.{written_start, written_step, written_end}
use Rattle.stepping.proofs.buffers.store_words.Goals as goal

pub loop-i-init : goal.loop-i-init
loop-i-init c = written_start c.requires

pub loop-i-preserved : goal.loop-i-preserved
loop-i-preserved c = written_step c.loop-i.invariant c.loop-i-test.true c.put_word.ensures

pub returns : goal.returns
returns c = written_end c.loop-i.invariant c.requires c.loop-i-test.false
