-- A block is written statement by statement; the laws of proofs/Writing*.antt say what is laid after each call.
use Rattle.std.proofs.Common.{◌∙◌, ap, refl, arith}
use Rattle.reading.specs.Closing.{closes_block}
use Rattle.reading.proofs.{Standing.told, Walking.kind_there, Walking.count_there, Walking.if_at}
use Rattle.placing.proofs.Writing.{writing_upto, writing_at}
use Rattle.layout.specs.Idling.{check_rec}
use Rattle.layout.proofs.{PassingSteps.step_short, PassingRounds.opened, PassingRounds.at_end}
use Rattle.layout.proofs.{WritingSteps.act_fits, WritingSteps.act_laid}
use Rattle.layout.proofs.IdleLoops.{skips_fit, skips_laid}
use Rattle.layout.proofs.WritingBlocks.{block_start, block_closed, block_ended, statement_fits, block_on, block_next}
use Rattle.layout.proofs.WritingRounds.{loop, loop_start, body_fits, rounds_next, check_fits, rounds_laid}
use Rattle.layout.proofs.WritingSides.{side_fits, side_at, end_fits, side_laid}
use Rattle.layout.proofs.WritingBranches.{test_fits, test_upto, table_at, test_at, one_fits, one_upto, one_ends, one_at, two_fits, two_ends, branch_laid}
use Rattle.layout.proofs.lent.Source.+writing.Goals as goal

-- A BLOCK

pub write_block-loop-next-init : goal.write_block-loop-next-init
write_block-loop-next-init t c = block_start c.requires

pub write_block-returns-then-closes : goal.write_block-returns-then-closes
write_block-returns-then-closes t c =
    block_closed c.loop-next.invariant (told closes_block c.kind_at.ensures c.closes.ensures c.if-closes.true)

pub write_block-bytes_between-done-requires : goal.write_block-bytes_between-done-requires
write_block-bytes_between-done-requires t c = writing_upto c.loop-next.invariant.writing

pub write_block-slice_bounds-write_statement-count : goal.write_block-slice_bounds-write_statement-count
write_block-slice_bounds-write_statement-count t c = rw c.bytes_between-done.ensures (writing_at c.loop-next.invariant.writing)

pub write_block-slice_bounds-write_statement-start : goal.write_block-slice_bounds-write_statement-start
write_block-slice_bounds-write_statement-start t c = rw c.bytes_between-done.ensures (writing_at c.loop-next.invariant.writing)

pub write_block-write_statement-e-requires : goal.write_block-write_statement-e-requires
write_block-write_statement-e-requires t c = (
  omega (arith, c.loop-next.invariant.passing.walk.on),
  statement_fits c.loop-next.invariant c.loop-next-test.true (told closes_block c.kind_at.ensures c.closes.ensures c.if-closes.false)
      c.bytes_between-done.ensures,
)

pub write_block-loop-next-smaller : goal.write_block-loop-next-smaller
write_block-loop-next-smaller t c =
    omega (
      arith,
      block_on c.loop-next.invariant c.loop-next-test.true (told closes_block c.kind_at.ensures c.closes.ensures c.if-closes.false)
          c.bytes_between-done.ensures c.write_statement-e.ensures,
    )

pub write_block-loop-next-preserved : goal.write_block-loop-next-preserved
write_block-loop-next-preserved t c =
    block_next c.loop-next.invariant c.loop-next-test.true (told closes_block c.kind_at.ensures c.closes.ensures c.if-closes.false)
    c.bytes_between-done.ensures c.write_statement-e.ensures

pub write_block-returns : goal.write_block-returns
write_block-returns t c = block_ended c.loop-next.invariant c.loop-next-test.false

-- AN IF

pub write_branch-put_step-test-requires : goal.write_branch-put_step-test-requires
write_branch-put_step-test-requires t c =
    let p = c.requires in (p.0.statement.ready.laying, omega arith, omega arith, test_fits p.0 p.2 p.1)

pub write_branch-bytes_between-at-requires : goal.write_branch-bytes_between-at-requires
write_branch-bytes_between-at-requires t c = let p = c.requires in test_upto p.0 p.2 p.1 c.put_step-test.ensures

pub write_branch-bounds-meets-ifs : goal.write_branch-bounds-meets-ifs
write_branch-bounds-meets-ifs t c = let p = c.requires in (table_at p.0 p.2 p.1 c.put_step-test.ensures).0

pub write_branch-slice_bounds-write_side-count : goal.write_branch-slice_bounds-write_side-count
write_branch-slice_bounds-write_side-count t c =
    let p = c.requires in test_at p.0 p.2 p.1 c.put_step-test.ensures refl c.bytes_between-at.ensures

pub write_branch-slice_bounds-write_side-start : goal.write_branch-slice_bounds-write_side-start
write_branch-slice_bounds-write_side-start t c =
    let p = c.requires in test_at p.0 p.2 p.1 c.put_step-test.ensures refl c.bytes_between-at.ensures

pub write_branch-write_side-first-requires : goal.write_branch-write_side-first-requires
write_branch-write_side-first-requires t c =
    let p = c.requires in
    (omega (arith, p.0.statement.here.early), one_fits p.0 p.2 p.1 c.put_step-test.ensures refl c.bytes_between-at.ensures)

pub write_branch-bytes_between-mid-requires : goal.write_branch-bytes_between-mid-requires
write_branch-bytes_between-mid-requires t c =
    let p = c.requires in one_upto p.0 p.2 p.1 c.put_step-test.ensures refl c.bytes_between-at.ensures c.write_side-first.ensures

pub write_branch-overflow_add-first : goal.write_branch-overflow_add-first
write_branch-overflow_add-first t c =
    let p = c.requires in
    omega (
      arith,
      one_ends p.0 p.2 p.1 c.put_step-test.ensures refl c.bytes_between-at.ensures c.write_side-first.ensures,
      (if_at p.0.statement.here p.2).ends,
      p.0.statement.here.file.inside,
    )

pub write_branch-slice_bounds-write_side-count-2 : goal.write_branch-slice_bounds-write_side-count-2
write_branch-slice_bounds-write_side-count-2 t c =
    let p = c.requires in
    one_at p.0 p.2 p.1 c.put_step-test.ensures refl c.bytes_between-at.ensures c.write_side-first.ensures c.bytes_between-mid.ensures

pub write_branch-slice_bounds-write_side-start-2 : goal.write_branch-slice_bounds-write_side-start-2
write_branch-slice_bounds-write_side-start-2 t c =
    let p = c.requires in
    one_at p.0 p.2 p.1 c.put_step-test.ensures refl c.bytes_between-at.ensures c.write_side-first.ensures c.bytes_between-mid.ensures

pub write_branch-write_side-second-requires : goal.write_branch-write_side-second-requires
write_branch-write_side-second-requires t c =
    let p = c.requires in (
      omega (
        arith,
        one_ends p.0 p.2 p.1 c.put_step-test.ensures refl c.bytes_between-at.ensures c.write_side-first.ensures,
        c.decreases,
        p.0.statement.here.early,
      ),
      two_fits p.0 p.2 p.1 c.put_step-test.ensures refl c.bytes_between-at.ensures c.write_side-first.ensures c.bytes_between-mid.ensures
          c.back.ensures,
    )

pub write_branch-overflow_add-result : goal.write_branch-overflow_add-result
write_branch-overflow_add-result t c =
    let p = c.requires in
    omega (
      arith,
      two_ends p.0 p.2 p.1 c.put_step-test.ensures refl c.bytes_between-at.ensures c.write_side-first.ensures c.bytes_between-mid.ensures
          c.back.ensures c.write_side-second.ensures,
      (if_at p.0.statement.here p.2).ends,
      p.0.statement.here.file.inside,
    )

pub write_branch-returns : goal.write_branch-returns
write_branch-returns t c =
    let p = c.requires in
    branch_laid p.0 p.2 p.1 c.put_step-test.ensures refl c.bytes_between-at.ensures c.write_side-first.ensures c.bytes_between-mid.ensures
    c.back.ensures c.write_side-second.ensures

-- A LOOP

pub write_rounds-loop-round-init : goal.write_rounds-loop-round-init
write_rounds-loop-round-init t c =
    let p = c.requires in loop_start (record { fits = p.0; kind = p.2; count_is = count_there p.0.statement.here p.1 })

pub write_rounds-bytes_between-at-requires : goal.write_rounds-bytes_between-at-requires
write_rounds-bytes_between-at-requires t c = writing_upto c.loop-round.invariant.turn.writing

pub write_rounds-slice_bounds-write_block-count : goal.write_rounds-slice_bounds-write_block-count
write_rounds-slice_bounds-write_block-count t c = rw c.bytes_between-at.ensures (writing_at c.loop-round.invariant.turn.writing)

pub write_rounds-slice_bounds-write_block-start : goal.write_rounds-slice_bounds-write_block-start
write_rounds-slice_bounds-write_block-start t c = rw c.bytes_between-at.ensures (writing_at c.loop-round.invariant.turn.writing)

pub write_rounds-write_block-e-requires : goal.write_rounds-write_block-e-requires
write_rounds-write_block-e-requires t c = (
  omega (arith, c.decreases, c.requires.0.statement.here.early),
  body_fits c.loop-round.invariant.loop_fits c.loop-round.invariant.turn c.loop-round-test.true c.bytes_between-at.ensures,
)

pub write_rounds-loop-round-preserved : goal.write_rounds-loop-round-preserved
write_rounds-loop-round-preserved t c =
    let l = c.loop-round.invariant in
    record {
      loop_fits = l.loop_fits;
      turn = rounds_next l.loop_fits l.turn c.loop-round-test.true c.bytes_between-at.ensures c.write_block-e.ensures;
    }

pub write_rounds-bytes_between-at-requires-2 : goal.write_rounds-bytes_between-at-requires-2
write_rounds-bytes_between-at-requires-2 t c = writing_upto c.loop-round.invariant.turn.writing

pub write_rounds-slice_bounds-put_step-count : goal.write_rounds-slice_bounds-put_step-count
write_rounds-slice_bounds-put_step-count t c = rw c.bytes_between-at-2.ensures (writing_at c.loop-round.invariant.turn.writing)

pub write_rounds-slice_bounds-put_step-start : goal.write_rounds-slice_bounds-put_step-start
write_rounds-slice_bounds-put_step-start t c = rw c.bytes_between-at-2.ensures (writing_at c.loop-round.invariant.turn.writing)

pub write_rounds-put_step-state-requires : goal.write_rounds-put_step-state-requires
write_rounds-put_step-state-requires t c =
    let l = c.loop-round.invariant in (
      l.turn.rounding.ready.laying,
      omega arith,
      omega (arith, c.requires.0.statement.ready.laying.settings.fits.positive.set_lasts),
      check_fits l.loop_fits l.turn c.loop-round-test.false (c.check_of.ensures ∙ ap check_rec c.requires.1) c.bytes_between-at-2.ensures,
    )

pub write_rounds-overflow_add-result : goal.write_rounds-overflow_add-result
write_rounds-overflow_add-result t c =
    omega (
      arith,
      at_end {O = loop c.loop-round.invariant.loop_fits} c.loop-round.invariant.turn.rounding c.loop-round-test.false,
      (opened (loop c.loop-round.invariant.loop_fits)).ends,
      c.loop-round.invariant.loop_fits.fits.statement.here.file.inside,
    )

pub write_rounds-returns : goal.write_rounds-returns
write_rounds-returns t c =
    let l = c.loop-round.invariant in
    rounds_laid l.loop_fits l.turn c.loop-round-test.false (c.check_of.ensures ∙ ap check_rec c.requires.1) c.bytes_between-at-2.ensures
    c.put_step-state.ensures

-- A SIDE OF AN IF

pub write_side-write_block-e-requires : goal.write_side-write_block-e-requires
write_side-write_block-e-requires t c = (omega arith, side_fits c.requires)

pub write_side-slice_bounds-close_side-count : goal.write_side-slice_bounds-close_side-count
write_side-slice_bounds-close_side-count t c = side_at c.requires c.write_block-e.ensures c.bytes_between-at.ensures

pub write_side-slice_bounds-close_side-start : goal.write_side-slice_bounds-close_side-start
write_side-slice_bounds-close_side-start t c = side_at c.requires c.write_block-e.ensures c.bytes_between-at.ensures

pub write_side-close_side-requires : goal.write_side-close_side-requires
write_side-close_side-requires t c = end_fits c.requires c.write_block-e.ensures c.bytes_between-at.ensures

pub write_side-returns : goal.write_side-returns
write_side-returns t c = side_laid c.requires c.write_block-e.ensures c.bytes_between-at.ensures c.close_side.ensures

-- A STATEMENT

pub write_statement-write_branch-requires : goal.write_statement-write_branch-requires
write_statement-write_branch-requires t c = (
  omega arith,
  (c.requires, c.record_at-r.ensures, kind_there c.requires.statement.here c.record_at-r.ensures c.if-r-eq-IF.true),
)

pub write_statement-write_idle-state-requires : goal.write_statement-write_idle-state-requires
write_statement-write_idle-state-requires t c = skips_fit c.requires c.record_at-r.ensures c.in-Some.ensures

pub write_statement-returns-in-Some : goal.write_statement-returns-in-Some
write_statement-returns-in-Some t c =
    skips_laid c.requires c.record_at-r.ensures c.in-Some.ensures c.write_idle-state.ensures

pub write_statement-write_rounds-requires : goal.write_statement-write_rounds-requires
write_statement-write_rounds-requires t c = (
  omega arith,
  (c.requires, c.record_at-r.ensures, kind_there c.requires.statement.here c.record_at-r.ensures c.if-r-eq-TIMES.true),
)

pub write_statement-put_step-state-requires : goal.write_statement-put_step-state-requires
write_statement-put_step-state-requires t c =
    let F = c.requires in
    let e = c.record_at-r.ensures in
    let no = c.in_default.ensures in
    let d = step_short F.statement e no c.if-r-eq-IF.false c.if-r-eq-TIMES.false c.step_ticks.ensures in
    (F.statement.ready.laying, d.0, d.1, act_fits F e no c.if-r-eq-IF.false c.if-r-eq-TIMES.false c.step_ticks.ensures)

pub write_statement-returns : goal.write_statement-returns
write_statement-returns t c =
    let F = c.requires in
    let e = c.record_at-r.ensures in
    act_laid F e c.in_default.ensures c.if-r-eq-IF.false c.if-r-eq-TIMES.false c.step_ticks.ensures
    c.put_step-state.ensures
