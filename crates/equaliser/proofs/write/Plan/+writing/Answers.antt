-- What is laid at each place is said for all settings with which the table may have been made.
use Rattle.std.proofs.Common.{ap, sym, ◌∙◌, arith}
use mathlib.Core.Logic.{inl, inr}
use Rattle.model.specs.Records.{Rec}
use Rattle.records.proofs.Over.{part_at, part_room}
use Rattle.reading.specs.Closing.{opens_block, closes_block}
use Rattle.reading.proofs.Standing.{told}
use Rattle.equaliser.proofs.WrittenLoops.{head_fits, head_laid, body_fits, by_body, body_early, tail_fits, tail_laid}
use Rattle.equaliser.proofs.WrittenBranches.{test_fits, test_laid, first_fits, by_first, else_fits, by_else, else_early, else_late, second_fits, by_second}
use Rattle.equaliser.proofs.WrittenBranches.{end_early, end_fits, end_laid}
use Rattle.equaliser.proofs.WrittenSteps.{skip_written, skip_fits, begun, inner_fits, inner_room, inner_written, act_fits, act_written}
use Rattle.equaliser.proofs.WrittenBlocks.{writing_start, statement_fits, writing_on, writing_next, last_fits, writing_end}
use Rattle.equaliser.proofs.write.Plan.+writing.Goals as goal
use Rattle.equaliser.proofs.write.Plan.+writing.Goals.{write_block-else-loop-all-test, write_block-then-loop-all-test+then-closes}

-- A BLOCK

pub write_block-loop-all-init : goal.write_block-loop-all-init
write_block-loop-all-init t c = λ F. writing_start F

pub write_block-slice_bounds-write_statement-count : goal.write_block-slice_bounds-write_statement-count
write_block-slice_bounds-write_statement-count t c = part_at (c.loop-all.invariant c.requires).part

pub write_block-slice_bounds-write_statement-start : goal.write_block-slice_bounds-write_statement-start
write_block-slice_bounds-write_statement-start t c = part_at (c.loop-all.invariant c.requires).part

pub write_block-write_statement-one-requires : goal.write_block-write_statement-one-requires
write_block-write_statement-one-requires t c = (
  omega (arith, c.decreases, (c.loop-all.invariant c.requires).walk.on, c.loop-all-test.true),
  statement_fits c.requires (c.loop-all.invariant c.requires) c.loop-all-test.true
      (told closes_block c.kind_at.ensures c.closes.ensures c.if-closes.false),
)

-- the block after a statement
pub write_block-loop-all-preserved : goal.write_block-loop-all-preserved
write_block-loop-all-preserved t c = λ F.
    writing_next F (c.loop-all.invariant F) c.loop-all-test.true (told closes_block c.kind_at.ensures c.closes.ensures c.if-closes.false)
    c.write_statement-one.ensures

pub write_block-overflow_add-all : goal.write_block-overflow_add-all
write_block-overflow_add-all t c =
    let p = writing_next c.requires (c.loop-all.invariant c.requires) c.loop-all-test.true
    (told closes_block c.kind_at.ensures c.closes.ensures c.if-closes.false) c.write_statement-one.ensures in
    omega (arith, part_room p.part)

pub write_block-loop-all-smaller : goal.write_block-loop-all-smaller
write_block-loop-all-smaller t c = omega (
  arith,
  writing_on c.requires (c.loop-all.invariant c.requires) c.loop-all-test.true
      (told closes_block c.kind_at.ensures c.closes.ensures c.if-closes.false) c.write_statement-one.ensures,
  c.loop-all-test.true,
)

-- the block ends with the records, or where a record closes it
pub write_block-slice_bounds-put_skip-count : goal.write_block-slice_bounds-put_skip-count
write_block-slice_bounds-put_skip-count t c = part_at (c.loop-all.invariant c.requires).part

pub write_block-slice_bounds-put_skip-start : goal.write_block-slice_bounds-put_skip-start
write_block-slice_bounds-put_skip-start t c = part_at (c.loop-all.invariant c.requires).part

pub write_block-overflow_add-all-2 : goal.write_block-overflow_add-all-2
write_block-overflow_add-all-2 t c = omega (arith, (c.loop-all.invariant c.requires).within)

pub write_block-put_skip-requires : goal.write_block-put_skip-requires
write_block-put_skip-requires t c =
    elim c.loop-all-test.branch [
      | write_block-else-loop-all-test w ↦ last_fits c.requires (c.loop-all.invariant c.requires) (inl w.loop-all-test.false)
      | write_block-then-loop-all-test+then-closes w ↦ last_fits c.requires (c.loop-all.invariant c.requires)
          (inr (told closes_block w.kind_at.ensures w.closes.ensures w.if-closes.true))
    ]

pub write_block-returns : goal.write_block-returns
write_block-returns t c =
    elim c.loop-all-test.branch [
      | write_block-else-loop-all-test w ↦ record { right = λ F. writing_end F (c.loop-all.invariant F) (inl w.loop-all-test.false) c.put_skip.ensures }
      | write_block-then-loop-all-test+then-closes w ↦ record {
        right = λ F. writing_end F (c.loop-all.invariant F)
            (inr (told closes_block w.kind_at.ensures w.closes.ensures w.if-closes.true)) c.put_skip.ensures;
      }
    ]

-- AN IF

pub write_branch-put_record-requires : goal.write_branch-put_record-requires
write_branch-put_record-requires t c = test_fits c.requires.0 c.requires.1 c.requires.2

pub write_branch-write_block-first-requires : goal.write_branch-write_block-first-requires
write_branch-write_block-first-requires t c =
    (omega arith, first_fits c.requires.0 c.requires.1 c.requires.2 (test_laid c.requires.0 c.requires.1 c.requires.2 c.put_record.ensures))

pub write_branch-overflow_add-middle : goal.write_branch-overflow_add-middle
write_branch-overflow_add-middle t c =
    omega (arith, part_room (by_first c.requires.0 c.requires.1 c.requires.2 c.put_record.ensures c.write_block-first.ensures).part)

pub write_branch-slice_bounds-put_bare-count : goal.write_branch-slice_bounds-put_bare-count
write_branch-slice_bounds-put_bare-count t c =
    part_at (by_first c.requires.0 c.requires.1 c.requires.2 c.put_record.ensures c.write_block-first.ensures).part

pub write_branch-slice_bounds-put_bare-start : goal.write_branch-slice_bounds-put_bare-start
write_branch-slice_bounds-put_bare-start t c =
    part_at (by_first c.requires.0 c.requires.1 c.requires.2 c.put_record.ensures c.write_block-first.ensures).part

pub write_branch-put_bare-requires : goal.write_branch-put_bare-requires
write_branch-put_bare-requires t c =
    else_fits c.requires.0 c.requires.1 c.requires.2 (by_first c.requires.0 c.requires.1 c.requires.2 c.put_record.ensures c.write_block-first.ensures)

pub write_branch-overflow_add-first : goal.write_branch-overflow_add-first
write_branch-overflow_add-first t c =
    let p = by_else c.requires.0 c.requires.1 c.requires.2 c.put_record.ensures c.write_block-first.ensures c.put_bare.ensures in
    omega (arith, else_early c.requires.0 c.requires.1 c.requires.2 p, c.requires.0.few)

pub write_branch-write_block-second-requires : goal.write_branch-write_block-second-requires
write_branch-write_block-second-requires t c =
    let p = by_else c.requires.0 c.requires.1 c.requires.2 c.put_record.ensures c.write_block-first.ensures c.put_bare.ensures in (
      omega (arith, c.decreases, c.requires.0.statement.early, else_late c.requires.0 c.requires.1 c.requires.2 p),
      second_fits c.requires.0 c.requires.1 c.requires.2 p,
    )

pub write_branch-overflow_add-last : goal.write_branch-overflow_add-last
write_branch-overflow_add-last t c =
    omega (
      arith,
      part_room (by_second c.requires.0 c.requires.1 c.requires.2 c.put_record.ensures c.write_block-first.ensures c.put_bare.ensures
          c.write_block-second.ensures).part,
    )

pub write_branch-slice_bounds-put_bare-count-2 : goal.write_branch-slice_bounds-put_bare-count-2
write_branch-slice_bounds-put_bare-count-2 t c =
    part_at (by_second c.requires.0 c.requires.1 c.requires.2 c.put_record.ensures c.write_block-first.ensures c.put_bare.ensures
    c.write_block-second.ensures).part

pub write_branch-slice_bounds-put_bare-start-2 : goal.write_branch-slice_bounds-put_bare-start-2
write_branch-slice_bounds-put_bare-start-2 t c =
    part_at (by_second c.requires.0 c.requires.1 c.requires.2 c.put_record.ensures c.write_block-first.ensures c.put_bare.ensures
    c.write_block-second.ensures).part

pub write_branch-put_bare-requires-2 : goal.write_branch-put_bare-requires-2
write_branch-put_bare-requires-2 t c =
    end_fits c.requires.0 c.requires.1 c.requires.2
    (by_second c.requires.0 c.requires.1 c.requires.2 c.put_record.ensures c.write_block-first.ensures c.put_bare.ensures c.write_block-second.ensures)

pub write_branch-overflow_add-result : goal.write_branch-overflow_add-result
write_branch-overflow_add-result t c =
    let p = by_second c.requires.0 c.requires.1 c.requires.2 c.put_record.ensures c.write_block-first.ensures c.put_bare.ensures
    c.write_block-second.ensures in
    omega (arith, end_early c.requires.0 c.requires.1 c.requires.2 p, c.requires.0.few)

pub write_branch-returns : goal.write_branch-returns
write_branch-returns t c = record {
  right = λ F. end_laid F c.requires.1 c.requires.2
      (by_second F c.requires.1 c.requires.2 c.put_record.ensures c.write_block-first.ensures c.put_bare.ensures c.write_block-second.ensures)
      c.put_bare-2.ensures;
}

-- A LOOP

pub write_loop-put_loop_head-requires : goal.write_loop-put_loop_head-requires
write_loop-put_loop_head-requires t c = head_fits c.requires.0 c.requires.1 c.requires.2 c.requires.3

pub write_loop-write_block-body-requires : goal.write_loop-write_block-body-requires
write_loop-write_block-body-requires t c = (
  omega arith,
  body_fits c.requires.0 c.requires.1 c.requires.2 c.requires.3
      (head_laid c.requires.0 c.requires.1 c.requires.2 c.requires.3 c.put_loop_head.ensures),
)

pub write_loop-overflow_add-at : goal.write_loop-overflow_add-at
write_loop-overflow_add-at t c =
    omega
    (arith, part_room (by_body c.requires.0 c.requires.1 c.requires.2 c.requires.3 c.put_loop_head.ensures c.write_block-body.ensures).part)

pub write_loop-slice_bounds-put_loop_tail-count : goal.write_loop-slice_bounds-put_loop_tail-count
write_loop-slice_bounds-put_loop_tail-count t c =
    part_at (by_body c.requires.0 c.requires.1 c.requires.2 c.requires.3 c.put_loop_head.ensures c.write_block-body.ensures).part

pub write_loop-slice_bounds-put_loop_tail-start : goal.write_loop-slice_bounds-put_loop_tail-start
write_loop-slice_bounds-put_loop_tail-start t c =
    part_at (by_body c.requires.0 c.requires.1 c.requires.2 c.requires.3 c.put_loop_head.ensures c.write_block-body.ensures).part

pub write_loop-put_loop_tail-requires : goal.write_loop-put_loop_tail-requires
write_loop-put_loop_tail-requires t c =
    tail_fits c.requires.0 c.requires.1 c.requires.2 c.requires.3
    (by_body c.requires.0 c.requires.1 c.requires.2 c.requires.3 c.put_loop_head.ensures c.write_block-body.ensures)

pub write_loop-overflow_add-result : goal.write_loop-overflow_add-result
write_loop-overflow_add-result t c =
    let p = by_body c.requires.0 c.requires.1 c.requires.2 c.requires.3 c.put_loop_head.ensures c.write_block-body.ensures in
    omega (arith, body_early c.requires.0 c.requires.1 c.requires.2 c.requires.3 p, c.requires.0.few)

pub write_loop-returns : goal.write_loop-returns
write_loop-returns t c = record {
  right = λ F. tail_laid F c.requires.1 c.requires.2 c.requires.3
      (by_body F c.requires.1 c.requires.2 c.requires.3 c.put_loop_head.ensures c.write_block-body.ensures) c.put_loop_tail.ensures;
}

-- A STATEMENT: a SKIP only waits; any other follows the SKIP of what waited

pub write_statement-returns-then-r-eq-SKIP : goal.write_statement-returns-then-r-eq-SKIP
write_statement-returns-then-r-eq-SKIP t c = record { right = λ F. skip_written F c.record_at-r.ensures c.if-r-eq-SKIP.true }

pub write_statement-put_skip-at-requires : goal.write_statement-put_skip-at-requires
write_statement-put_skip-at-requires t c = skip_fits c.requires c.record_at-r.ensures c.if-r-eq-SKIP.false

pub write_statement-write_inner-w-requires : goal.write_statement-write_inner-w-requires
write_statement-write_inner-w-requires t c = (
  omega arith,
  (
    inner_fits c.requires c.record_at-r.ensures c.if-r-eq-SKIP.false (begun c.requires c.record_at-r.ensures c.if-r-eq-SKIP.false c.put_skip-at.ensures),
    c.record_at-r.ensures,
    sym (ap (λ (x : Rec). opens_block x.kind) c.record_at-r.ensures) ∙ sym c.opens.ensures ∙ c.if-opens.true,
  ),
)

pub write_statement-overflow_add-result-then-opens : goal.write_statement-overflow_add-result-then-opens
write_statement-overflow_add-result-then-opens t c =
    omega (
      arith,
      inner_room c.requires c.record_at-r.ensures c.if-r-eq-SKIP.false
          (begun c.requires c.record_at-r.ensures c.if-r-eq-SKIP.false c.put_skip-at.ensures) c.write_inner-w.ensures,
    )

pub write_statement-returns-then-opens : goal.write_statement-returns-then-opens
write_statement-returns-then-opens t c = record {
  right = λ F. inner_written F c.record_at-r.ensures c.if-r-eq-SKIP.false
      (begun F c.record_at-r.ensures c.if-r-eq-SKIP.false c.put_skip-at.ensures) c.write_inner-w.ensures (sym c.opens.ensures ∙ c.if-opens.true);
}

pub write_statement-put_record-requires : goal.write_statement-put_record-requires
write_statement-put_record-requires t c =
    act_fits c.requires c.record_at-r.ensures c.if-r-eq-SKIP.false
    (begun c.requires c.record_at-r.ensures c.if-r-eq-SKIP.false c.put_skip-at.ensures) (sym c.opens.ensures ∙ c.if-opens.false)

pub write_statement-returns : goal.write_statement-returns
write_statement-returns t c = record {
  right = λ F. act_written F c.record_at-r.ensures c.if-r-eq-SKIP.false
      (begun F c.record_at-r.ensures c.if-r-eq-SKIP.false c.put_skip-at.ensures) (sym c.opens.ensures ∙ c.if-opens.false) c.put_record.ensures;
}
