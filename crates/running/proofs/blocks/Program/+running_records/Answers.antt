-- Records are run one after another; the laws of proofs/Running*.antt say what each turn and each answer comes to.
use Rattle.std.proofs.Common.{not, refl, ap, ◌∙◌, arith}
use Rattle.model.specs.Records.{Rec, kind_at}
use Rattle.laws.proofs.Exits.{exits}
use Rattle.reading.specs.Closing.{opens_block}
use Rattle.running.specs.Promises.{RecordsRan, StatementRan}
use Rattle.running.proofs.{Behind.loop_goes_on, Behind.loop_times, RunningSteps.test_there, RunningSteps.kind_there}
use Rattle.running.proofs.Running.{running_start, running_inside, running_ended, running_ran, running_then, statement_next, past_ran}
use Rattle.running.proofs.RunningLoops.{loop_last, loop_entered, loop_halted, loop_next}
use Rattle.running.proofs.RunningLoops.{spinning_start, spinning_cut, spinning_over, spinning_turned, turning_start, turning_turned, times_empty}
use Rattle.running.proofs.blocks.Program.+running_records.Goals as goal

-- A LOOP

pub run_loop-run_while-requires : goal.run_loop-run_while-requires
run_loop-run_while-requires t c =
    (omega arith, (c.requires.0, c.record_at-r.ensures, kind_there c.record_at-r.ensures c.if-r-eq-WHILE.true))

pub run_loop-run_times-requires : goal.run_loop-run_times-requires
run_loop-run_times-requires t c =
    let kind = ap (λ (x : Rec). x.kind) c.record_at-r.ensures in
    (omega arith, (c.requires.0, c.record_at-r.ensures, loop_times _ c.requires.1 (λ e. c.if-r-eq-WHILE.false (kind ∙ e))))

-- RECORDS

pub run_records-loop-at-init : goal.run_records-loop-at-init
run_records-loop-at-init t c = running_start c.requires

pub run_records-returns-in_err-at : goal.run_records-returns-in_err-at
run_records-returns-in_err-at t c =
    exits (RecordsRan _ _ _ _ _ _ _ _ _) c.from_residual.ensures.1 (running_ran c.loop-at.invariant (c.in_err-at.ensures.moved.halts _ refl))

pub run_records-returns-then-to-at : goal.run_records-returns-then-to-at
run_records-returns-then-to-at t c =
    let moved = c.in_ok-at.ensures.moved.goes _ refl in
    running_ended (running_then c.loop-at.invariant moved) c.if-to-at.true

pub run_records-run_loop-requires : goal.run_records-run_loop-requires
run_records-run_loop-requires t c =
    let moved = c.in_ok-at.ensures.moved.goes _ refl in
    let stops = c.in_ok-at.ensures.stops _ refl c.if-to-at.false in
    let goes = loop_goes_on (kind_at c.args.self.now.file.now c.in_ok-at.at.next) stops in (
      omega (arith, c.loop-at.invariant.on, moved.on, running_inside moved.rest, c.if-to-at.false, moved.rest.given.few),
      (statement_next (running_then c.loop-at.invariant moved) c.if-to-at.false goes, stops),
    )

pub run_records-returns-in_err-at-2 : goal.run_records-returns-in_err-at-2
run_records-returns-in_err-at-2 t c =
    let moved = c.in_ok-at.ensures.moved.goes _ refl in
    let goes = loop_goes_on (kind_at c.args.self.now.file.now c.in_ok-at.at.next) (c.in_ok-at.ensures.stops _ refl c.if-to-at.false) in
    let past = past_ran (running_start moved.rest) c.if-to-at.false goes c.in_err-at-2.ensures in
    exits (RecordsRan _ _ _ _ _ _ _ _ _) c.from_residual-in_err-at-2.ensures.1 (running_ran (running_then c.loop-at.invariant moved) (past.moved.halts _ refl))

pub run_records-loop-at-smaller : goal.run_records-loop-at-smaller
run_records-loop-at-smaller t c =
    let moved = c.in_ok-at.ensures.moved.goes _ refl in
    let goes = loop_goes_on (kind_at c.args.self.now.file.now c.in_ok-at.at.next) (c.in_ok-at.ensures.stops _ refl c.if-to-at.false) in
    let past = past_ran (running_start moved.rest) c.if-to-at.false goes c.in_ok-at-2.ensures in
    omega (arith, past.on _ refl, moved.on, c.loop-at-test.true)

pub run_records-loop-at-preserved : goal.run_records-loop-at-preserved
run_records-loop-at-preserved t c =
    let moved = c.in_ok-at.ensures.moved.goes _ refl in
    let goes = loop_goes_on (kind_at c.args.self.now.file.now c.in_ok-at.at.next) (c.in_ok-at.ensures.stops _ refl c.if-to-at.false) in
    let past = past_ran (running_start moved.rest) c.if-to-at.false goes c.in_ok-at-2.ensures in
    running_then (running_then c.loop-at.invariant moved) (past.moved.goes _ refl)

pub run_records-returns : goal.run_records-returns
run_records-returns t c = running_ended c.loop-at.invariant c.loop-at-test.false

-- A TIMES

pub run_times-run_last_test-requires : goal.run_times-run_last_test-requires
run_times-run_last_test-requires t c = (test_there c.requires.0 c.requires.1 (ap opens_block c.requires.2), c.requires.0.given.early)

pub run_times-returns-then-to-body : goal.run_times-returns-then-to-body
run_times-returns-then-to-body t c =
    times_empty c.requires.0 c.requires.2 c.requires.1 c.last-to.ensures.0 c.if-to-body.true c.run_last_test.ensures

pub run_times-loop-init : goal.run_times-loop-init
run_times-loop-init t c = turning_start c.requires.0 c.requires.2 c.requires.1 c.last-to.ensures.0 refl

pub run_times-run_records-requires : goal.run_times-run_records-requires
run_times-run_records-requires t c =
    (omega (arith, c.requires.0.at.early, c.requires.0.given.few), loop_entered c.loop.invariant c.loop.invariant.early)

pub run_times-returns-in_err-at : goal.run_times-returns-in_err-at
run_times-returns-in_err-at t c =
    let inv = c.loop.invariant in
    exits (StatementRan _ _ _ _ _ _ _ _) c.from_residual.ensures.1
    (loop_halted inv c.loop-test.true inv.early (turning_turned inv) c.in_err-at.ensures refl)

pub run_times-loop-preserved : goal.run_times-loop-preserved
run_times-loop-preserved t c =
    let inv = c.loop.invariant in
    loop_next inv c.loop-test.true inv.early (turning_turned inv) c.in_ok-at.ensures refl

pub run_times-run_last_test-requires-2 : goal.run_times-run_last_test-requires-2
run_times-run_last_test-requires-2 t c = (test_there c.requires.0 c.requires.1 (ap opens_block c.requires.2), c.loop.invariant.early)

pub run_times-returns : goal.run_times-returns
run_times-returns t c = loop_last c.loop.invariant c.loop-test.false c.run_last_test-2.ensures

-- A WHILE

pub run_while-loop-init : goal.run_while-loop-init
run_while-loop-init t c = spinning_start c.requires.0 c.requires.2 c.requires.1 c.last-to.ensures.0 refl

pub run_while-returns-then-self-at : goal.run_while-returns-then-self-at
run_while-returns-then-self-at t c = spinning_cut c.loop.invariant c.loop-test.true c.if-self-at.true

pub run_while-test_holds-requires : goal.run_while-test_holds-requires
run_while-test_holds-requires t c = test_there c.requires.0 c.requires.1 (ap opens_block c.requires.2)

pub run_while-returns-then-not-test_holds : goal.run_while-returns-then-not-test_holds
run_while-returns-then-not-test_holds t c =
    spinning_over c.loop.invariant c.loop-test.true c.if-self-at.false c.test_holds.ensures (ap not c.if-not-test_holds.true)

pub run_while-run_records-requires : goal.run_while-run_records-requires
run_while-run_records-requires t c =
    (omega (arith, c.requires.0.at.early, c.requires.0.given.few), loop_entered c.loop.invariant (omega (arith, c.if-self-at.false)))

pub run_while-returns-in_err-at : goal.run_while-returns-in_err-at
run_while-returns-in_err-at t c =
    let inv = c.loop.invariant in
    let turned = spinning_turned inv c.loop-test.true c.if-self-at.false c.test_holds.ensures (ap not c.if-not-test_holds.false) in
    exits (StatementRan _ _ _ _ _ _ _ _) c.from_residual.ensures.1
    (loop_halted inv c.loop-test.true (omega (arith, c.if-self-at.false)) turned c.in_err-at.ensures refl)

pub run_while-loop-preserved : goal.run_while-loop-preserved
run_while-loop-preserved t c =
    let inv = c.loop.invariant in
    let turned = spinning_turned inv c.loop-test.true c.if-self-at.false c.test_holds.ensures (ap not c.if-not-test_holds.false) in
    loop_next inv c.loop-test.true (omega (arith, c.if-self-at.false)) turned c.in_ok-at.ensures refl

pub run_while-run_last_test-requires : goal.run_while-run_last_test-requires
run_while-run_last_test-requires t c = (test_there c.requires.0 c.requires.1 (ap opens_block c.requires.2), c.loop.invariant.early)

pub run_while-returns : goal.run_while-returns
run_while-returns t c = loop_last c.loop.invariant c.loop-test.false c.run_last_test.ensures
