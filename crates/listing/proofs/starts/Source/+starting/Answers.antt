-- The table of starts is filled statement by statement; the laws of proofs/Starting*.antt say what each turn and each answer comes to.
use Rattle.std.proofs.Common.{refl, ap, sym, ◌∙◌, arith}
use lib.ListN.{length-set}
use Rattle.model.specs.Records.{Rec}
use Rattle.reading.specs.Closing.{closes_block}
use Rattle.reading.proofs.Standing.{told}
use Rattle.listing.proofs.StartingBlocks.{step_early, step_started, starting_start, starting_closed}
use Rattle.listing.proofs.StartingBlocks.{starting_ended, statement_next, starting_on, starting_next}
use Rattle.listing.proofs.StartingBranches.{one_entered, middle_after, middle_inside, middle_room, two_entered}
use Rattle.listing.proofs.StartingBranches.{last_inside, last_room, branch_started}
use Rattle.listing.proofs.starts.Source.+starting.Goals as goal

pub start_block-loop-next-init : goal.start_block-loop-next-init
start_block-loop-next-init t c = starting_start c.requires

pub start_block-returns-then-closes : goal.start_block-returns-then-closes
start_block-returns-then-closes t c =
    starting_closed c.loop-next.invariant (told closes_block c.kind_at.ensures c.closes.ensures c.if-closes.true)

pub start_block-start_statement-e-requires : goal.start_block-start_statement-e-requires
start_block-start_statement-e-requires t c = (
  omega (arith, c.decreases, c.loop-next.invariant.walk.on),
  statement_next c.loop-next.invariant c.loop-next-test.true (told closes_block c.kind_at.ensures c.closes.ensures c.if-closes.false),
)

pub start_block-loop-next-smaller : goal.start_block-loop-next-smaller
start_block-loop-next-smaller t c =
    omega (
      arith,
      starting_on c.loop-next.invariant c.loop-next-test.true (told closes_block c.kind_at.ensures c.closes.ensures c.if-closes.false)
          c.start_statement-e.ensures,
    )

pub start_block-loop-next-preserved : goal.start_block-loop-next-preserved
start_block-loop-next-preserved t c =
    starting_next c.loop-next.invariant c.loop-next-test.true (told closes_block c.kind_at.ensures c.closes.ensures c.if-closes.false)
    c.start_statement-e.ensures

pub start_block-returns : goal.start_block-returns
start_block-returns t c = starting_ended c.loop-next.invariant c.loop-next-test.false

pub start_branch-start_block-one-requires : goal.start_branch-start_block-one-requires
start_branch-start_block-one-requires t c = (omega (arith, c.decreases, c.requires.0.here.early), one_entered c.requires.0 c.requires.1)

pub start_branch-offset_bounds-out-middle : goal.start_branch-offset_bounds-out-middle
start_branch-offset_bounds-out-middle t c =
    omega (arith, middle_inside c.requires.0 c.requires.1 c.start_block-one.ensures, c.requires.0.room)

pub start_branch-bounds-out-middle : goal.start_branch-bounds-out-middle
start_branch-bounds-out-middle t c = omega (arith, middle_room c.requires.0 c.requires.1 c.start_block-one.ensures)

pub start_branch-overflow_add-middle : goal.start_branch-overflow_add-middle
start_branch-overflow_add-middle t c =
    omega (arith, middle_inside c.requires.0 c.requires.1 c.start_block-one.ensures, c.requires.0.room)

pub start_branch-start_block-two-requires : goal.start_branch-start_block-two-requires
start_branch-start_block-two-requires t c =
    let e = c.start_block-one.ensures in
    let i = middle_after c.requires.0 c.requires.1 e in
    let j = middle_inside c.requires.0 c.requires.1 e in
    (omega (arith, c.decreases, c.requires.0.here.early, i, j), two_entered c.requires.0 c.requires.1 e (simp length-set))

pub start_branch-offset_bounds-out-last : goal.start_branch-offset_bounds-out-last
start_branch-offset_bounds-out-last t c =
    omega (arith, last_inside c.requires.0 c.requires.1 c.start_block-one.ensures (simp length-set) c.start_block-two.ensures, c.requires.0.room)

pub start_branch-bounds-out-last : goal.start_branch-bounds-out-last
start_branch-bounds-out-last t c =
    omega (arith, last_room c.requires.0 c.requires.1 c.start_block-one.ensures (simp length-set) c.start_block-two.ensures)

pub start_branch-overflow_add-result : goal.start_branch-overflow_add-result
start_branch-overflow_add-result t c =
    omega (arith, last_inside c.requires.0 c.requires.1 c.start_block-one.ensures (simp length-set) c.start_block-two.ensures, c.requires.0.room)

pub start_branch-returns : goal.start_branch-returns
start_branch-returns t c =
    branch_started c.requires.0 c.requires.1 c.start_block-one.ensures (simp length-set) c.start_block-two.ensures refl c.max-end.ensures

pub start_statement-start_branch-requires : goal.start_statement-start_branch-requires
start_statement-start_branch-requires t c =
    (omega (arith, c.decreases), (c.requires, ap (λ (x : Rec). x.kind) (sym c.record_at-r.ensures) ∙ c.if-r-eq-IF.true))

pub start_statement-overflow_add-result : goal.start_statement-overflow_add-result
start_statement-overflow_add-result t c =
    omega (arith, step_early c.requires c.record_at-r.ensures c.if-r-eq-IF.false c.step_ticks.ensures)

pub start_statement-returns : goal.start_statement-returns
start_statement-returns t c = step_started c.requires c.record_at-r.ensures c.if-r-eq-IF.false c.step_ticks.ensures
