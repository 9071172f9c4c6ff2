use Rattle.std.proofs.Common.{rules, refl}
use Rattle.stepping.specs.Machines.{pictured}
use Rattle.stepping.proofs.ImageLaws.{written_is}
use Rattle.stepping.proofs.store.Image.write.Goals as goal

pub returns : goal.returns
returns c =
    written_is (pictured c.args.self.now) c.args.bytes.now (search rules) c.requires c.put_word.ensures c.put_word-2.ensures refl c.store_words.ensures
