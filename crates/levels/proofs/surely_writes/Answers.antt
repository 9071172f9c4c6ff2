use Rattle.std.proofs.Common.{arith}
use Rattle.levels.proofs.SureWrites.{sure_start, sure_small, sure_kind, sure_next, sure_end}
use Rattle.levels.proofs.surely_writes.Goals as goal

pub loop-i-init : goal.loop-i-init
loop-i-init c = sure_start _ c.requires

pub before-sure-requires : goal.before-sure-requires
before-sure-requires c =
    let S = c.loop-i.invariant in
    (rw c.kind_at.ensures (sure_kind S _ (omega arith)), sure_small S)

pub loop-i-preserved : goal.loop-i-preserved
loop-i-preserved c = sure_next c.loop-i.invariant _ _ (omega arith) (rw c.kind_at.ensures at c.before-sure.ensures)

pub returns : goal.returns
returns c = sure_end c.loop-i.invariant (omega arith)
