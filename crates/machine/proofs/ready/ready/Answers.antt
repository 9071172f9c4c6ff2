use Rattle.machine.proofs.ReadyLaws.{over_period, bad_lengths_is, is_ready}
use Rattle.machine.proofs.ready.ready.Goals as goal

pub returns-in_default : goal.returns-in_default
returns-in_default c = over_period _ _ _ _ _ c.in_ok-rack.ensures c.in_default.ensures

pub returns-then-bad : goal.returns-then-bad
returns-then-bad c = bad_lengths_is _ _ _ _ _ c.in_ok-rack.ensures c.in-Some.ensures c.if-bad.true

pub returns : goal.returns
returns c = is_ready _ _ _ _ _ c.in_ok-rack.ensures c.in-Some.ensures c.if-bad.false
