use Rattle.stepping.proofs.BufferLaws.{loaded_start, loaded_step, loaded_end}
use Rattle.stepping.proofs.buffers.load_words.Goals as goal

pub loop-i-init : goal.loop-i-init
loop-i-init c = loaded_start

pub loop-i-preserved : goal.loop-i-preserved
loop-i-preserved c = loaded_step c.loop-i.invariant c.loop-i-test.true c.word_at.ensures

pub returns : goal.returns
returns c = loaded_end c.loop-i.invariant c.loop-i-test.false
