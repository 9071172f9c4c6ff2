use Rattle.placing.proofs.PieceBytes.{before_fits, before_written, before_nothing}
use Rattle.placing.proofs.pieces.put_before.Goals as goal

pub put_commands-requires : goal.put_commands-requires
put_commands-requires c = (c.requires.0, before_fits c.requires.0 _ c.if-s-d.true c.requires.2 c.args.out.now c.requires.3)

pub returns-then-s-d : goal.returns-then-s-d
returns-then-s-d c = before_written c.requires.0 _ c.if-s-d.true c.requires.2 c.put_commands.ensures

pub returns : goal.returns
returns c = before_nothing c.requires.0 _ c.requires.1 c.if-s-d.false c.args.out.now
