use Rattle.std.proofs.Common.{true, false, arith}
use Rattle.stepping.proofs.ProgressLaws.{step_cut, step_acted}
use Rattle.stepping.proofs.progress.run_step.Goals as goal

pub returns-then-limit-tick : goal.returns-then-limit-tick
returns-then-limit-tick c = step_cut _ _ _ _ _ _ _ (omega arith)

pub returns-then-act : goal.returns-then-act
returns-then-act c = step_acted _ _ _ _ _ _ _ _ true c.act.ensures c.if-act.true (omega arith)

pub returns : goal.returns
returns c = step_acted _ _ _ _ _ _ _ _ false c.act.ensures c.if-act.false (omega arith)
