use Rattle.std.proofs.Common.{◌≡◌, ◌+◌, ◌*◌, min, refl, sym, ◌∙◌}
use Rattle.layout.proofs.IdleLoops.{scan_start, scan_next, scan_closed}
use Rattle.layout.proofs.skips.idle_rounds.Goals as goal

pub loop-next-init : goal.loop-next-init
loop-next-init c = scan_start c.requires.0

pub returns-then-closes : goal.returns-then-closes
returns-then-closes c =
    let e : c.capped-ticks.result ≡ min (c.args.count * c.loop-next.sum) (c.args.period + 1) = cc in
    scan_closed c.loop-next.invariant c.loop-next-test.true c.record_at-r.ensures (sym c.closes.ensures ∙ c.if-closes.true) e refl

pub loop-next-preserved : goal.loop-next-preserved
loop-next-preserved c =
    let e : c.capped-sum.result ≡ min (c.loop-next.sum + c.record_at-r.result.count) (c.args.period + 1) = cc in
    scan_next c.loop-next.invariant c.loop-next-test.true c.record_at-r.ensures c.if-r-ne-SKIP.false e
