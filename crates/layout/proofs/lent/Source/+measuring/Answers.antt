-- A block is measured statement by statement on a lent clock; the laws of proofs/Measuring.antt and proofs/Clocking.antt say what each turn
-- and each answer comes to.
use Rattle.std.proofs.Common.{◌∙◌, ap, sym, arith}
use Rattle.model.specs.Records.{Rec}
use Rattle.laws.proofs.Exits.{exits_none}
use Rattle.reading.specs.Closing.{closes_block}
use Rattle.reading.proofs.{Standing.told, Walking.kind_there, Walking.if_at}
use Rattle.layout.specs.Clocked.{BlockClocked, StatementClocked}
use Rattle.layout.proofs.{PassingRounds.opened, PassingRounds.at_end, IdleLoops.idle_measured}
use Rattle.layout.proofs.Measuring.{measuring_start, measuring_closed, measuring_ended, measuring_next, side_empty, loop_next, loop_measured}
use Rattle.layout.proofs.Clocking.{kinds_told, within, inner_starts, inner_gives_up, inner_on, step_starts, step_gives_up, step_next}
use Rattle.layout.proofs.Clocking.{statement_up, statement_done, rounds_start, body_entered, rounds_give_up, loop_there}
use Rattle.layout.proofs.Clocking.{test_up, one_entered, one_up, one_goes, two_entered, two_up, two_goes, both_meet, branch_done}
use Rattle.layout.proofs.lent.Source.+measuring.Goals as goal

-- A BLOCK

pub measure_block-loop-next-init : goal.measure_block-loop-next-init
measure_block-loop-next-init t c = measuring_start c.requires c.args.clock.now.few

pub measure_block-returns-then-closes : goal.measure_block-returns-then-closes
measure_block-returns-then-closes t c = (
  measuring_closed c.loop-next.invariant (told closes_block (ap (λ (y : Rec). y.kind) c.record_at-r.ensures) c.closes.ensures c.if-closes.true),
  within c.loop-next.invariant,
)

pub measure_block-measure_inner-requires : goal.measure_block-measure_inner-requires
measure_block-measure_inner-requires t c = (
  omega (arith, c.loop-next.invariant.passing.walk.on),
  (
    inner_starts c.loop-next.invariant c.loop-next-test.true
        (told closes_block (ap (λ (y : Rec). y.kind) c.record_at-r.ensures) c.closes.ensures c.if-closes.false),
    kinds_told c.record_at-r.ensures c.nests.ensures c.if-nests.true,
  ),
)

pub measure_block-returns-in_err-next : goal.measure_block-returns-in_err-next
measure_block-returns-in_err-next t c =
    exits_none (BlockClocked c.args.self.now.file.now c.args.i c.args.self.now.to c.args.self.now.rack c.args.clock.now c.measure_inner.new.clock c.args.meets.now c.measure_inner.new.meets)
    c.from_residual.ensures
    (inner_gives_up c.loop-next.invariant c.loop-next-test.true
    (told closes_block (ap (λ (y : Rec). y.kind) c.record_at-r.ensures) c.closes.ensures c.if-closes.false) c.in_err-next.ensures)

pub measure_block-loop-next-smaller-then-nests : goal.measure_block-loop-next-smaller-then-nests
measure_block-loop-next-smaller-then-nests t c =
    omega (
      arith,
      inner_on c.loop-next.invariant c.loop-next-test.true
          (told closes_block (ap (λ (y : Rec). y.kind) c.record_at-r.ensures) c.closes.ensures c.if-closes.false) c.in_ok-next.ensures,
    )

pub measure_block-loop-next-preserved-then-nests : goal.measure_block-loop-next-preserved-then-nests
measure_block-loop-next-preserved-then-nests t c =
    measuring_next c.loop-next.invariant c.loop-next-test.true
    (told closes_block (ap (λ (y : Rec). y.kind) c.record_at-r.ensures) c.closes.ensures c.if-closes.false) c.in_ok-next.ensures.0 c.in_ok-next.ensures.1

pub measure_block-measure_step-requires : goal.measure_block-measure_step-requires
measure_block-measure_step-requires t c =
    step_starts c.loop-next.invariant c.loop-next-test.true
    (told closes_block (ap (λ (y : Rec). y.kind) c.record_at-r.ensures) c.closes.ensures c.if-closes.false)
    c.record_at-r.ensures (sym c.nests.ensures ∙ c.if-nests.false)

pub measure_block-returns-in_err-state : goal.measure_block-returns-in_err-state
measure_block-returns-in_err-state t c =
    exits_none (BlockClocked c.args.self.now.file.now c.args.i c.args.self.now.to c.args.self.now.rack c.args.clock.now c.loop-next.clock c.args.meets.now c.loop-next.meets)
    c.from_residual-in_err-state.ensures
    (step_gives_up c.loop-next.invariant c.loop-next-test.true
    (told closes_block (ap (λ (y : Rec). y.kind) c.record_at-r.ensures) c.closes.ensures c.if-closes.false)
    c.record_at-r.ensures (sym c.nests.ensures ∙ c.if-nests.false) c.measure_step.ensures c.in_err-state.ensures)

pub measure_block-loop-next-preserved : goal.measure_block-loop-next-preserved
measure_block-loop-next-preserved t c =
    step_next c.loop-next.invariant c.loop-next-test.true
    (told closes_block (ap (λ (y : Rec). y.kind) c.record_at-r.ensures) c.closes.ensures c.if-closes.false)
    c.record_at-r.ensures (sym c.nests.ensures ∙ c.if-nests.false) c.measure_step.ensures c.in_ok-state.ensures

pub measure_block-returns : goal.measure_block-returns
measure_block-returns t c = (measuring_ended c.loop-next.invariant c.loop-next-test.false, within c.loop-next.invariant)

-- AN IF

pub measure_branch-returns-in_err-test : goal.measure_branch-returns-in_err-test
measure_branch-returns-in_err-test t c =
    exits_none (StatementClocked c.args.self.now.file.now c.args.i c.args.self.now.to c.args.self.now.rack c.args.clock.now c.args.clock.now c.args.meets.now c.args.meets.now)
    c.from_residual.ensures (test_up c.requires.0 c.requires.1 c.stepped.ensures c.in_err-test.ensures)

pub measure_branch-measure_side-requires : goal.measure_branch-measure_side-requires
measure_branch-measure_side-requires t c = (
  omega (arith, c.decreases, c.requires.0.here.early),
  (
    one_entered c.requires.0 c.requires.1 c.stepped.ensures c.in_ok-test.ensures,
    omega (arith, (if_at c.requires.0.here c.requires.1).ends),
  ),
)

pub measure_branch-returns-in_err-mid : goal.measure_branch-returns-in_err-mid
measure_branch-returns-in_err-mid t c =
    exits_none (StatementClocked c.args.self.now.file.now c.args.i c.args.self.now.to c.args.self.now.rack c.args.clock.now c.measure_side.new.clock c.args.meets.now c.measure_side.new.meets)
    c.from_residual-in_err-mid.ensures (one_up c.requires.0 c.requires.1 c.stepped.ensures c.in_ok-test.ensures c.in_err-mid.ensures)

pub measure_branch-overflow_add-mid : goal.measure_branch-overflow_add-mid
measure_branch-overflow_add-mid t c =
    omega (
      arith,
      one_goes c.requires.0 c.requires.1 c.stepped.ensures c.in_ok-test.ensures c.in_ok-mid.ensures,
      (if_at c.requires.0.here c.requires.1).ends,
      c.requires.0.here.file.inside,
    )

pub measure_branch-measure_side-requires-2 : goal.measure_branch-measure_side-requires-2
measure_branch-measure_side-requires-2 t c =
    let goes = one_goes c.requires.0 c.requires.1 c.stepped.ensures c.in_ok-test.ensures c.in_ok-mid.ensures in (
      omega (arith, goes, c.decreases, c.requires.0.here.early),
      (
        two_entered c.requires.0 c.requires.1 c.stepped.ensures c.in_ok-test.ensures c.in_ok-mid.ensures c.back-clock.ensures,
        omega (arith, goes, (if_at c.requires.0.here c.requires.1).ends),
      ),
    )

pub measure_branch-returns-in_err-end : goal.measure_branch-returns-in_err-end
measure_branch-returns-in_err-end t c =
    exits_none (StatementClocked c.args.self.now.file.now c.args.i c.args.self.now.to c.args.self.now.rack c.args.clock.now c.measure_side-2.new.clock c.args.meets.now c.measure_side-2.new.meets)
    c.from_residual-in_err-end.ensures
    (two_up c.requires.0 c.requires.1 c.stepped.ensures c.in_ok-test.ensures c.in_ok-mid.ensures c.back-clock.ensures c.in_err-end.ensures)

pub measure_branch-meet-state-requires : goal.measure_branch-meet-state-requires
measure_branch-meet-state-requires t c =
    both_meet c.requires.0 c.requires.1 c.stepped.ensures c.in_ok-test.ensures c.in_ok-mid.ensures c.back-clock.ensures c.in_ok-end.ensures

pub measure_branch-overflow_add-result : goal.measure_branch-overflow_add-result
measure_branch-overflow_add-result t c =
    omega (
      arith,
      two_goes c.requires.0 c.requires.1 c.stepped.ensures c.in_ok-test.ensures c.in_ok-mid.ensures c.back-clock.ensures c.in_ok-end.ensures,
      (if_at c.requires.0.here c.requires.1).ends,
      c.requires.0.here.file.inside,
    )

pub measure_branch-returns : goal.measure_branch-returns
measure_branch-returns t c =
    branch_done c.requires.0 c.requires.1 c.stepped.ensures c.in_ok-test.ensures c.in_ok-mid.ensures c.back-clock.ensures c.in_ok-end.ensures
    c.meet-state.ensures c.args.clock.now.few c.take_place-k.ensures.2 c.take_place-k.ensures.0 c.note.ensures

-- AN IF OR A LOOP

pub measure_inner-returns-in_err-clock : goal.measure_inner-returns-in_err-clock
measure_inner-returns-in_err-clock t c =
    exits_none (StatementClocked c.args.self.now.file.now c.args.i c.args.self.now.to c.args.self.now.rack c.args.clock.now c.args.clock.now c.args.meets.now c.args.meets.now)
    c.from_residual.ensures
    (statement_up
    (idle_measured (loop_there c.requires.0 c.requires.1 c.record_at-r.ensures c.if-r-eq-IF.false) c.in-Some.ensures {table = c.args.meets.now}
    c.args.clock.now.few c.measure_idle.ensures) c.in_err-clock.ensures)

pub measure_inner-returns : goal.measure_inner-returns
measure_inner-returns t c =
    statement_done
    (idle_measured (loop_there c.requires.0 c.requires.1 c.record_at-r.ensures c.if-r-eq-IF.false) c.in-Some.ensures c.args.clock.now.few
    c.measure_idle.ensures) c.in_ok-clock.ensures

pub measure_inner-measure_branch-requires : goal.measure_inner-measure_branch-requires
measure_inner-measure_branch-requires t c = (
  omega arith,
  (c.requires.0, kind_there c.requires.0.here c.record_at-r.ensures c.if-r-eq-IF.true),
)

pub measure_inner-measure_rounds-requires : goal.measure_inner-measure_rounds-requires
measure_inner-measure_rounds-requires t c =
    let O = loop_there c.requires.0 c.requires.1 c.record_at-r.ensures c.if-r-eq-IF.false in
    (omega arith, (c.requires.0, O.kind, O.count_is))

-- A LOOP

pub measure_rounds-loop-round-init : goal.measure_rounds-loop-round-init
measure_rounds-loop-round-init t c = rounds_start c.requires.0 c.requires.1 c.requires.2 c.args.clock.now.few

pub measure_rounds-measure_block-requires : goal.measure_rounds-measure_block-requires
measure_rounds-measure_block-requires t c =
    (omega (arith, c.decreases, c.requires.0.here.early), body_entered c.loop-round.invariant)

pub measure_rounds-returns-in_err-next : goal.measure_rounds-returns-in_err-next
measure_rounds-returns-in_err-next t c =
    exits_none (StatementClocked c.args.self.now.file.now c.args.i c.args.self.now.to c.args.self.now.rack c.args.clock.now c.measure_block.new.clock c.args.meets.now c.measure_block.new.meets)
    c.from_residual.ensures (rounds_give_up c.loop-round.invariant c.loop-round-test.true c.in_err-next.ensures)

pub measure_rounds-loop-round-preserved : goal.measure_rounds-loop-round-preserved
measure_rounds-loop-round-preserved t c =
    loop_next c.loop-round.invariant c.loop-round-test.true c.in_ok-next.ensures.0 c.in_ok-next.ensures.1

pub measure_rounds-stepped-requires : goal.measure_rounds-stepped-requires
measure_rounds-stepped-requires t c =
    let y = c.loop-round.invariant.passing.turn.ready.laying in
    (y, omega arith, omega (arith, y.settings.fits.positive.set_lasts))

pub measure_rounds-returns-in_err-clock : goal.measure_rounds-returns-in_err-clock
measure_rounds-returns-in_err-clock t c =
    exits_none (StatementClocked c.args.self.now.file.now c.args.i c.args.self.now.to c.args.self.now.rack c.args.clock.now c.loop-round.clock c.args.meets.now c.loop-round.meets)
    c.from_residual-in_err-clock.ensures
    (statement_up (loop_measured c.loop-round.invariant c.loop-round-test.false c.stepped.ensures) c.in_err-clock.ensures)

pub measure_rounds-overflow_add-result : goal.measure_rounds-overflow_add-result
measure_rounds-overflow_add-result t c =
    let p = c.loop-round.invariant.passing in
    omega (
      arith,
      at_end p.turn c.loop-round-test.false,
      (opened p.loop).ends,
      p.loop.statement.here.file.inside,
    )

pub measure_rounds-returns : goal.measure_rounds-returns
measure_rounds-returns t c =
    statement_done (loop_measured c.loop-round.invariant c.loop-round-test.false c.stepped.ensures) c.in_ok-clock.ensures

-- A SIDE OF AN IF

pub measure_side-returns-then-closes : goal.measure_side-returns-then-closes
measure_side-returns-then-closes t c = (
  side_empty c.requires.0 c.args.clock.now.few (told closes_block c.kind_at.ensures c.closes.ensures c.if-closes.true),
  c.requires.0.ready.laying.within,
)

pub measure_side-measure_block-requires : goal.measure_side-measure_block-requires
measure_side-measure_block-requires t c = (omega arith, c.requires.0)
