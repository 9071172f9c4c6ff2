use Rattle.stepping.proofs.BufferLaws.{Loaded}
use Rattle.stepping.proofs.buffers.load_words.Given as goal

abbrev pub invariant-loop-i : goal.invariant-loop-i
invariant-loop-i l = Loaded l.bytes l.initial.to l.to l.i
