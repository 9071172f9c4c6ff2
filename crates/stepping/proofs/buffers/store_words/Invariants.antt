use Rattle.stepping.proofs.BufferLaws.{Written}
use Rattle.stepping.proofs.buffers.store_words.Given as goal

abbrev pub invariant-loop-i : goal.invariant-loop-i
invariant-loop-i l = Written l.from l.initial.bytes l.bytes l.i
