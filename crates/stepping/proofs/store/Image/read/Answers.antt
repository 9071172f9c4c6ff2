use Rattle.std.proofs.Common.{arith}
use Rattle.stepping.proofs.ImageLaws.{read_is}
use Rattle.stepping.proofs.store.Image.read.Goals as goal

pub returns : goal.returns
returns c =
    rw (c.word_at.ensures, c.word_at-2.ensures) (read_is c.args.bytes.now c.load_words.ensures (omega (arith, c.requires)))
