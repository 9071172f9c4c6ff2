use Rattle.std.proofs.Common.{true, false, arith}
use Rattle.stepping.proofs.ProgressLaws.{step_cut, last_tested}
use Rattle.stepping.proofs.progress.run_last_test.Goals as goal

pub returns-then-limit-tick : goal.returns-then-limit-tick
returns-then-limit-tick c = step_cut _ _ _ _ _ _ _ (omega arith)

pub returns-then-test_holds : goal.returns-then-test_holds
returns-then-test_holds c = last_tested _ _ _ _ _ _ true c.test_holds.ensures c.if-test_holds.true (omega arith)

pub returns : goal.returns
returns c = last_tested _ _ _ _ _ _ false c.test_holds.ensures c.if-test_holds.false (omega arith)
