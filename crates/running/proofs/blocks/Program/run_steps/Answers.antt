use Rattle.std.proofs.Common.{refl, ap, sym, ◌∙◌, arith}
use Rattle.model.specs.Records.{Rec}
use Rattle.laws.proofs.Exits.{exits}
use Rattle.running.specs.Promises.{is_loop, StepsRan}
use Rattle.running.proofs.Running.{running_start, running_inside, running_ran, running_then, steps_going, steps_halted}
use Rattle.running.proofs.blocks.Program.run_steps.Goals as goal

pub loop-at-init : goal.loop-at-init
loop-at-init c = running_start c.requires

pub record_at-r-requires : goal.record_at-r-requires
record_at-r-requires c = omega (arith, running_inside c.loop-at.invariant.rest)

pub returns-then-loops : goal.returns-then-loops
returns-then-loops c =
    let kind = ap (λ (x : Rec). is_loop x.kind) c.record_at-r.ensures in
    steps_going c.loop-at.invariant (λ l. sym kind ∙ sym c.loops.ensures ∙ c.if-loops.true)

pub run_one-requires : goal.run_one-requires
run_one-requires c =
    let R = c.loop-at.invariant.rest in (
      record { given = R.given; form = R.form; file = R.chain.file; inside = omega (arith, running_inside R, c.loop-at-test.true) },
      c.record_at-r.ensures,
      sym c.loops.ensures ∙ c.if-loops.false,
    )

pub returns-in_err-at : goal.returns-in_err-at
returns-in_err-at c =
    let one = c.in_err-at.ensures.past _ c.loop-at.invariant.rest c.loop-at-test.true in
    exits (StepsRan _ _ _ _ _ _ _ _ _ _) c.from_residual.ensures.1 (steps_halted (running_ran c.loop-at.invariant (one.moved.halts _ refl)))

pub loop-at-smaller : goal.loop-at-smaller
loop-at-smaller c =
    let one = c.in_ok-at.ensures.past _ c.loop-at.invariant.rest c.loop-at-test.true in
    omega (arith, one.on _ refl, c.loop-at-test.true)

pub loop-at-preserved : goal.loop-at-preserved
loop-at-preserved c =
    let one = c.in_ok-at.ensures.past _ c.loop-at.invariant.rest c.loop-at-test.true in
    running_then c.loop-at.invariant (one.moved.goes _ refl)

pub returns : goal.returns
returns c = steps_going c.loop-at.invariant (λ l. absurd (omega (arith, c.loop-at-test.false)))
