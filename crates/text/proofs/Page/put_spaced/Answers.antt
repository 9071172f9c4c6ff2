use Rattle.std.proofs.Common.{sym, arith}
use Rattle.text.proofs.Pieces.{within, within_then, within_same, spaced_next}
use Rattle.text.proofs.Page.put_spaced.Goals as goal

pub loop-n-preserved : goal.loop-n-preserved
loop-n-preserved c =
    let i = c.loop-n.n-index in
    let p = within_then (within_then c.loop-n.invariant (within {n = 1} c.put_text.ensures (omega arith))) c.put_number.ensures in
    within_same (sym (spaced_next c.args.numbers.now i c.loop-n-test.true)) (omega arith) p
