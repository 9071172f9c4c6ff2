use Rattle.std.proofs.Common.{◌∙◌, arith}
use Rattle.running.proofs.Behind.{last_is}
use Rattle.running.proofs.blocks.Program.last.Goals as goal

pub returns : goal.returns
returns c = (c.from.ensures ∙ last_is c.args.k c.requires, omega arith)
