use Rattle.std.proofs.Common.{refl, ap, sym, arith}
use Rattle.model.specs.Records.{Rec}
use Rattle.reading.specs.Closing.{opens_block, closes_block}
use Rattle.running.proofs.Behind.{past_else, past_end, closes_neither, opens_neither}
use Rattle.running.proofs.{Running.running_start, Running.past_ran, RunningBranches.closed_past, RunningBranches.branch_cut, RunningBranches.branch_past}
use Rattle.running.proofs.RunningSteps.{reached_statement, fields_fitting, test_there, kind_there, step_ran}
use Rattle.running.proofs.blocks.Program.run_one.Goals as goal

pub returns-then-r-eq-END : goal.returns-then-r-eq-END
returns-then-r-eq-END c =
    let is = kind_there c.requires.1 c.if-r-eq-END.true in
    record { past = λ to B l. closed_past B l (ap closes_block is) (past_end c.args.self.now.file.now c.args.i (sym is) (λ e. omega arith)) }

pub returns-then-r-eq-ELSE : goal.returns-then-r-eq-ELSE
returns-then-r-eq-ELSE c =
    let is = kind_there c.requires.1 c.if-r-eq-ELSE.true in
    record { past = λ to B l. closed_past B l (ap closes_block is) (past_else c.args.self.now.file.now c.args.i _ (sym is) refl c.behind-next.ensures) }

pub returns-then-self-tick : goal.returns-then-self-tick
returns-then-self-tick c =
    let is = kind_there c.requires.1 c.if-r-eq-IF.true in
    record { past = λ to B l. branch_cut (running_start B) l is c.if-self-tick.true }

pub test_holds-holds-requires : goal.test_holds-holds-requires
test_holds-holds-requires c =
    let is = kind_there c.requires.1 c.if-r-eq-IF.true in
    test_there (reached_statement c.requires.0 (ap closes_block is)) c.requires.1 (ap opens_block is)

pub returns-then-r-eq-IF : goal.returns-then-r-eq-IF
returns-then-r-eq-IF c =
    let is = kind_there c.requires.1 c.if-r-eq-IF.true in
    record { past = λ to B l. branch_past (running_start B) l is c.if-self-tick.false c.requires.1 c.test_holds-holds.ensures c.side-next.ensures }

pub run_plain-requires : goal.run_plain-requires
run_plain-requires c =
    let goes = closes_neither (ap (λ (x : Rec). x.kind) c.requires.1) c.if-r-eq-ELSE.false c.if-r-eq-END.false in
    let R = c.requires.0 in
    (R.given.inputs, fields_fitting (reached_statement R goes) c.requires.1, omega (arith, R.inside, R.given.few), R.given.early)

pub returns : goal.returns
returns c =
    let kind = ap (λ (x : Rec). x.kind) c.requires.1 in
    let goes = closes_neither kind c.if-r-eq-ELSE.false c.if-r-eq-END.false in
    let shut = opens_neither kind c.if-r-eq-IF.false c.requires.2 in
    let ran = step_ran (reached_statement c.requires.0 goes) c.requires.1 shut c.run_plain.ensures in
    record { past = λ to B l. past_ran (running_start B) l goes ran }
