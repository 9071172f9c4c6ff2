use Rattle.records.proofs.SkipBytes.{none_written, one_room, one_written}
use Rattle.records.proofs.skips.put_skip.Goals as goal

pub returns-then-wait-eq0 : goal.returns-then-wait-eq0
returns-then-wait-eq0 c = none_written _ _ c.if-wait-eq0.true

pub put_bare-requires : goal.put_bare-requires
put_bare-requires c = one_room _ _ c.if-wait-eq0.false c.requires

pub returns : goal.returns
returns c = one_written _ _ c.if-wait-eq0.false c.put_bare.ensures
