use Rattle.std.proofs.Common.{ap, ◌∙◌, arith}
use Rattle.laws.proofs.Exits.{exits_none}
use Rattle.records.specs.Blocks.{skip_records}
use Rattle.reading.specs.Closing.{opens_block, closes_block}
use Rattle.reading.proofs.Standing.{told}
use Rattle.equaliser.specs.Sizes.{BlockSize, StatementSize}
use Rattle.equaliser.proofs.StatementSizes.{first_asks, first_over, first_on, first_early, first_small, loop_over, loop_size}
use Rattle.equaliser.proofs.StatementSizes.{second_asks, second_over, second_early, second_small, branch_over, branch_size}
use Rattle.equaliser.proofs.Measured.{measured_start, measured_few, measured_all, measured_closed, measured_over, measured_past, measured_on, measured_next}
use Rattle.equaliser.proofs.measure.Source.+measuring.Goals as goal

-- A BLOCK

pub measure_block-loop-all-init : goal.measure_block-loop-all-init
measure_block-loop-all-init t c = measured_start c.args.self.now.rack.now c.requires

pub measure_block-returns-in_err-one : goal.measure_block-returns-in_err-one
measure_block-returns-in_err-one t c =
    exits_none (BlockSize c.args.self.now.file.now c.args.from c.args.self.now.to c.args.self.now.rack.now c.args.pads.now c.measure_statement.new.pads) c.from_residual.ensures
    (measured_over c.loop-all.invariant c.loop-all-test.true (told closes_block c.kind_at.ensures c.closes.ensures c.if-closes.false) c.in_err-one.ensures)

pub measure_block-returns-then-self-all : goal.measure_block-returns-then-self-all
measure_block-returns-then-self-all t c =
    measured_past c.loop-all.invariant c.loop-all-test.true (told closes_block c.kind_at.ensures c.closes.ensures c.if-closes.false) c.in_ok-one.ensures
    c.if-self-all.true

-- the rest after the statement
pub measure_block-loop-all-preserved : goal.measure_block-loop-all-preserved
measure_block-loop-all-preserved t c =
    measured_next c.loop-all.invariant c.loop-all-test.true (told closes_block c.kind_at.ensures c.closes.ensures c.if-closes.false) c.in_ok-one.ensures
    c.if-self-all.false

pub measure_block-overflow_add-all-in-loop-all : goal.measure_block-overflow_add-all-in-loop-all
measure_block-overflow_add-all-in-loop-all t c = omega (
  arith,
  measured_few (measured_next c.loop-all.invariant c.loop-all-test.true (told closes_block c.kind_at.ensures c.closes.ensures c.if-closes.false)
      c.in_ok-one.ensures c.if-self-all.false),
)

pub measure_block-loop-all-smaller : goal.measure_block-loop-all-smaller
measure_block-loop-all-smaller t c = omega (
  arith,
  measured_on c.loop-all.invariant c.loop-all-test.true (told closes_block c.kind_at.ensures c.closes.ensures c.if-closes.false) c.in_ok-one.ensures,
  c.loop-all-test.true,
)

pub measure_block-returns-after-loop-all : goal.measure_block-returns-after-loop-all
measure_block-returns-after-loop-all t c = measured_all c.loop-all.invariant c.loop-all-test.false (omega arith)

pub measure_block-returns-then-closes : goal.measure_block-returns-then-closes
measure_block-returns-then-closes t c = measured_closed c.loop-all.invariant (told closes_block c.kind_at.ensures c.closes.ensures c.if-closes.true) (omega arith)

-- AN IF

pub measure_branch-measure_block-requires : goal.measure_branch-measure_block-requires
measure_branch-measure_block-requires t c = (omega arith, first_asks c.requires.0 (ap opens_block c.requires.1))

pub measure_branch-returns-in_err-first : goal.measure_branch-returns-in_err-first
measure_branch-returns-in_err-first t c =
    exits_none (StatementSize c.args.self.now.file.now c.args.i c.args.self.now.to c.args.self.now.rack.now c.args.wait c.args.pads.now c.measure_block.new.pads)
    c.from_residual.ensures (first_over c.requires.0 (ap opens_block c.requires.1) c.in_err-first.ensures)

pub measure_branch-overflow_add-first : goal.measure_branch-overflow_add-first
measure_branch-overflow_add-first t c = omega (arith, first_early c.requires.0 (ap opens_block c.requires.1) c.in_ok-first.ensures)

pub measure_branch-measure_block-requires-2 : goal.measure_branch-measure_block-requires-2
measure_branch-measure_block-requires-2 t c = (
  omega (arith, c.decreases, c.requires.0.statement.early, first_on c.requires.0 (ap opens_block c.requires.1) c.in_ok-first.ensures),
  second_asks c.requires.0 c.requires.1 c.in_ok-first.ensures,
)

pub measure_branch-returns-in_err-second : goal.measure_branch-returns-in_err-second
measure_branch-returns-in_err-second t c =
    exits_none (StatementSize c.args.self.now.file.now c.args.i c.args.self.now.to c.args.self.now.rack.now c.args.wait c.args.pads.now c.measure_block-2.new.pads)
    c.from_residual-in_err-second.ensures (second_over c.requires.0 c.requires.1 c.in_ok-first.ensures c.in_err-second.ensures)

pub measure_branch-returns-in_err-ticks : goal.measure_branch-returns-in_err-ticks
measure_branch-returns-in_err-ticks t c =
    exits_none (StatementSize c.args.self.now.file.now c.args.i c.args.self.now.to c.args.self.now.rack.now c.args.wait c.args.pads.now c.measure_block-2.new.pads)
    c.from_residual-in_err-ticks.ensures (branch_over c.requires.0 c.requires.1 c.in_ok-first.ensures c.in_ok-second.ensures c.in_err-ticks.ensures)

pub measure_branch-padded_records-requires : goal.measure_branch-padded_records-requires
measure_branch-padded_records-requires t c = first_small c.requires.0 (ap opens_block c.requires.1) c.in_ok-first.ensures

pub measure_branch-padded_records-requires-2 : goal.measure_branch-padded_records-requires-2
measure_branch-padded_records-requires-2 t c = second_small c.requires.0 c.requires.1 c.in_ok-first.ensures c.in_ok-second.ensures

pub measure_branch-overflow_add-result : goal.measure_branch-overflow_add-result
measure_branch-overflow_add-result t c =
    omega (arith, second_early c.requires.0 c.requires.1 c.in_ok-first.ensures c.in_ok-second.ensures, c.requires.0.few)

pub measure_branch-returns : goal.measure_branch-returns
measure_branch-returns t c =
    branch_size c.requires.0 c.requires.1 c.in_ok-first.ensures c.in_ok-second.ensures c.measure_block-2.array_long c.saturating_sub.ensures
    c.saturating_sub-2.ensures c.padded_records.ensures.0 c.padded_records-2.ensures.0 c.skip_records.ensures c.in_ok-ticks.ensures

-- A LOOP

pub measure_loop-measure_block-requires : goal.measure_loop-measure_block-requires
measure_loop-measure_block-requires t c = (omega arith, first_asks c.requires.0 c.requires.2)

pub measure_loop-returns-in_err-body : goal.measure_loop-returns-in_err-body
measure_loop-returns-in_err-body t c =
    exits_none (StatementSize c.args.self.now.file.now c.args.i c.args.self.now.to c.args.self.now.rack.now c.args.wait c.args.pads.now c.measure_block.new.pads)
    c.from_residual.ensures (first_over c.requires.0 c.requires.2 c.in_err-body.ensures)

pub measure_loop-returns-in_err-ticks : goal.measure_loop-returns-in_err-ticks
measure_loop-returns-in_err-ticks t c =
    exits_none (StatementSize c.args.self.now.file.now c.args.i c.args.self.now.to c.args.self.now.rack.now c.args.wait c.args.pads.now c.measure_block.new.pads)
    c.from_residual-in_err-ticks.ensures (loop_over c.requires.0 c.requires.2 c.requires.3 c.in_ok-body.ensures c.requires.1 c.in_err-ticks.ensures)

pub measure_loop-padded_records-requires : goal.measure_loop-padded_records-requires
measure_loop-padded_records-requires t c = first_small c.requires.0 c.requires.2 c.in_ok-body.ensures

pub measure_loop-overflow_add-result : goal.measure_loop-overflow_add-result
measure_loop-overflow_add-result t c = omega (arith, first_early c.requires.0 c.requires.2 c.in_ok-body.ensures, c.requires.0.few)

pub measure_loop-returns : goal.measure_loop-returns
measure_loop-returns t c =
    loop_size c.requires.0 c.requires.2 c.requires.3 c.in_ok-body.ensures c.requires.1 c.measure_block.array_long c.padded_records.ensures.0
    (c.skip_records.ensures ∙ ap skip_records c.from.ensures) c.skip_records-2.ensures c.in_ok-ticks.ensures
