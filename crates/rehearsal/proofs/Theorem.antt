-- What demand 3 says of a rehearsal of a task that was prepared.
use Prim.Native.Nat.{ℕ}
use native.Mathlib.Omega.{arith}
use mathlib.Core.Path.{◌≡◌, refl, sym, subst, ◌∙◌}
use mathlib.Core.{Bool.true, Logic.◌↔◌, List.List}
use lib.ListN.{length}
use borrow.Author.Tests.{eq-eqb}
use Rattle.model.specs.Answers.{Verdict, finished, refused, bit, and_then, is_finished}
use Rattle.model.specs.Replies.{run_reply, stop_reply}
use Rattle.model.specs.Chain.{Set, Chain, LentOutputs, Lent, equalising, laying_out, plain_loan, whole_loan, stopped_loan, taking_up, End, plain_end_one, whole_end, stopped_end}
use Rattle.theory.proofs.Demand3.{demand3}
use Rattle.theory.specs.Demand3.{Unseen}
use Rattle.std.specs.Prelude.{Option, None, Some}
use Rattle.model.specs.Rehearsal.{same_end, zero_outputs, chain, second, rehearsal, Admitted, Confirms}
use Rattle.rehearsal.proofs.Alike.{same_end_is, bit_one}

-- a call that is not refused is followed by the next
goes_on : (v next : Verdict) → is_finished v ≡ true → and_then v next ≡ next
goes_on (finished xs) next e = refl
goes_on (refused n xs) next e = let z : ◌≡◌ {A = ℕ} 0 1 = cc in absurd (omega arith)

-- ends are alike exactly when they are equal
told_alike : (a b : End) → (bit (same_end a b) ≡ 1) ↔ (a ≡ b)
told_alike a b = (λ e. (same_end_is a b).0 ((bit_one (same_end a b)).0 e), λ e. (bit_one (same_end a b)).1 ((same_end_is a b).1 e))

both : {A B C : Type 0} → A ↔ B → B ↔ C → A ↔ C
both p q = (λ a. q.0 (p.0 a), λ c. p.1 (q.1 c))

module _ (s task : List ℕ) (x y : Set) (stop : Option ℕ) (P : Admitted stop (chain s task x y stop)) where
  abbrev k : Chain
  k = chain s task x y stop

  zeros_lent : LentOutputs zero_outputs
  zeros_lent = record { levels_eight = refl; marks_eight = refl }

  lent : Lent k
  lent = record {
    one_lent = P.one;
    two_lent = P.two;
    plain_one_lent = zeros_lent;
    plain_two_lent = zeros_lent;
    whole_lent = zeros_lent;
    stopped_lent = zeros_lent;
    image_lent = refl;
    spare_lent = refl;
  }

  chained : Unseen k
  chained = demand3 k lent P.equalised P.laid

  -- nothing refuses before the second set
  reaches : rehearsal stop k ≡ second stop k
  unfolding rehearsal
  reaches =
      goes_on (equalising k) _ P.equalised
      ∙ goes_on (laying_out k) _ P.laid
      ∙ rw (eq-eqb (length x.variables) 16 P.one.sixteen, eq-eqb (length y.variables) 16 P.two.sixteen)
      (goes_on (run_reply (plain_loan k x zero_outputs)) (second stop k) chained.plain_one_runs)

-- WHOLE

whole_confirms : (s task : List ℕ) (x y : Set) → Admitted None (chain s task x y None)
    → Confirms None (chain s task x y None) (rehearsal None (chain s task x y None))
whole_confirms s task x y P =
    let k = chain s task x y None in
    let D = chained s task x y None P in
    let e = reaches s task x y None P ∙ goes_on (run_reply (whole_loan k)) _ D.whole_runs in
    subst (Confirms None k) (sym e)
    (record { finishes = refl; alike = both (told_alike (plain_end_one k) (whole_end k)) D.alike; twice = tt })

-- STOPPED AND TAKEN UP

stopped_confirms : (s task : List ℕ) (x y : Set) (c : ℕ) → Admitted (Some c) (chain s task x y (Some c))
    → Confirms (Some c) (chain s task x y (Some c)) (rehearsal (Some c) (chain s task x y (Some c)))
stopped_confirms s task x y c P =
    let k = chain s task x y (Some c) in
    let D = (chained s task x y (Some c) P).stopped P.early in
    let e =
    reaches s task x y (Some c) P
    ∙ goes_on (stop_reply (stopped_loan k) k.image c) _ D.stop_runs
    ∙ goes_on (taking_up (stopped_loan k) k.image k.spare c) _ D.take_up_runs in
    subst (Confirms (Some c) k) (sym e)
    (record { finishes = refl; alike = both (told_alike (plain_end_one k) (stopped_end k)) D.alike; twice = (D.twice, D.few) })

pub confirms : (s task : List ℕ) (x y : Set) (stop : Option ℕ) → Admitted stop (chain s task x y stop) → Confirms stop (chain s task x y stop) (rehearsal stop (chain s task x y stop))
confirms s task x y None P = whole_confirms s task x y P
confirms s task x y (Some c) P = stopped_confirms s task x y c P
