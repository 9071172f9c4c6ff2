-- From what preparing the task answers, and what the runs come to, to what a rehearsal answers.
use Prim.Native.Nat.{ℕ, ◌≤◌}
use native.Mathlib.Omega.{arith}
use mathlib.Core.Path.{◌≡◌, refl, ap, sym, subst, ◌∙◌}
use mathlib.Core.Bool.{Bool, true, false, not, ◌||◌}
use mathlib.Core.List.{List, [], ◌∷◌}
use lib.Dec.{eqb}
use borrow.Author.Tests.{eqb-true}
use lib.ListN.{length, get_or, take, replicate}
use Rattle.std.specs.Prelude.{Option, None, Some, Result, Ok, Err}
use Rattle.model.specs.declared.{Refusal.Refusal, LaidOut.LaidOut, Rehearsed.Rehearsed}
use Rattle.model.specs.Answers.{Verdict, finished, refusal, rehearsed, and_then, value_at}
use Rattle.model.specs.Replies.{prepare_reply, prepare_out, turn_down, lay_out_out, run_reply}
use Rattle.model.specs.Chain.{Set, Chain, equalising, equalised_file, laying_out, laid_file, plain_loan, plain_end_one}
use Rattle.model.specs.Rehearsal.{room, zero_outputs, chain, second, bad_sets, rehearsal, Confirms, Rehearses}
use Rattle.theory.proofs.{Accepted.lay_out_accepted, Prepared.finish, Preparing.prepares_out, Preparing.prepares_both}
use Rattle.preparation.proofs.Chaining.{refused_second, first_done, both_done, second_done}
use Rattle.rehearsal.specs.Promises.{laid_loan, second_of}
use Rattle.rehearsal.proofs.Theorem.{confirms}

-- both sets have 16 variables
pub good_sets : {x y : ℕ} {o : Bool} → o ≡ bad_sets x y → o ≡ false → (x ≡ 16) × (y ≡ 16)
good_sets {x} {y} {o} e h = go (eqb x 16) refl (eqb y 16) refl (sym e ∙ h)
  where
    go : (a : Bool) → eqb x 16 ≡ a → (b : Bool) → eqb y 16 ≡ b → (not a || not b) ≡ false → (x ≡ 16) × (y ≡ 16)
    go true p true q f = (eqb-true x 16 p, eqb-true y 16 q)
    go true p false q f = let z : ◌≡◌ {A = ℕ} 0 1 = cc in absurd (omega arith)
    go false p b q f = let z : ◌≡◌ {A = ℕ} 0 1 = cc in absurd (omega arith)

-- THE WHOLE CHAIN

module _ (s task : List ℕ) (x y : Set) (stop : Option ℕ) where
  abbrev k : Chain
  k = chain s task x y stop

  -- what the reply says holds of the answer
  rehearses : {r : Result Rehearsed Refusal} → rehearsed r ≡ rehearsal stop k → Rehearses s task x y stop r
  rehearses e = record { reply = e; confirms = λ P. subst (Confirms stop k) (sym e) (confirms s task x y stop P) }

  -- what preparing the task answers, as the two calls
  both : {v : Verdict} → v ≡ prepare_reply s task (length (replicate {A = ℕ} 65532 0)) → v ≡ and_then (equalising k) (laying_out k)
  unfolding room
  both e = e ∙ prepares_both k refl

  pub rehearse_refused : (z : Refusal) → refusal z ≡ prepare_reply s task (length (replicate {A = ℕ} 65532 0)) → Rehearses s task x y stop (Err z)
  unfolding rehearsal
  rehearse_refused z e = rehearses (refused_second z (equalising k) (laying_out k) _ (both e))

  module _ {n t : ℕ} (e : finished (n ∷ t ∷ []) ≡ prepare_reply s task (length (replicate {A = ℕ} 65532 0))) {laid' : List ℕ}
      (q : laid' ≡ prepare_out s task (replicate 65532 0)) where
    laid_reply : finished (n ∷ t ∷ []) ≡ laying_out k
    laid_reply = second_done (equalising k) (laying_out k) (both e)

    pub file_fits : length laid' ≡ length (replicate {A = ℕ} 65532 0) → n ≤ length laid'
    unfolding room
    file_fits h =
        let A = lay_out_accepted s (equalised_file k) (length k.laid_room) (n ∷ t ∷ []) (sym laid_reply) in
        omega (arith, h, ap (λ (xs : List ℕ). get_or xs 0 0) A.answers, A.has_room.fits_buffer)

    file_is : take n laid' ≡ laid_file k
    unfolding room
    file_is =
        let done = finish (equalising k) (first_done (equalising k) (laying_out k) (both e)) in
        ap (take n) (q ∙ prepares_out k done.0 done.1) ∙ ap (λ (v : Verdict). take (value_at 0 v) (lay_out_out s (equalised_file k) k.laid_room)) laid_reply

    total_is : t ≡ value_at 1 (laying_out k)
    total_is = ap (value_at 1) laid_reply

    abbrev runs : Verdict
    runs = turn_down 10 (bad_sets (length x.variables) (length y.variables)) (and_then (run_reply (plain_loan k x zero_outputs)) (second stop k))

    prepared : rehearsal stop k ≡ runs
    unfolding rehearsal room
    prepared = both_done (equalising k) (laying_out k) (and_then (laying_out k) runs) (both e) ∙ ap (λ (v : Verdict). and_then v runs) (sym laid_reply)

    second_same : second_of stop (plain_end_one k) t (laid_loan s (take n laid') y.variables y.inputs) ≡ second stop k
    second_same =
        ap (λ (f : List ℕ). second_of stop (plain_end_one k) t (laid_loan s f y.variables y.inputs)) file_is
        ∙ ap (λ (m : ℕ). second_of stop (plain_end_one k) m (laid_loan s (laid_file k) y.variables y.inputs)) total_is
        ∙ go stop
      where
        go : (c : Option ℕ) → second_of c (plain_end_one k) (value_at 1 (laying_out k)) (laid_loan s (laid_file k) y.variables y.inputs) ≡ second c (chain s task x y c)
        go None = refl
        go (Some c) = refl

    pub rehearse_bad : {o : Bool} → o ≡ bad_sets (length x.variables) (length y.variables) → o ≡ true → Rehearses s task x y stop (Err Refusal.BadBuffers)
    rehearse_bad p h = rehearses (sym (prepared ∙ rw (sym p ∙ h)))

    pub rehearse_done : {o : Bool} → o ≡ bad_sets (length x.variables) (length y.variables) → o ≡ false → {r : Result Rehearsed Refusal}
        → rehearsed r ≡ and_then (run_reply (plain_loan k x zero_outputs)) (second_of stop (plain_end_one k) t (laid_loan s (take n laid') y.variables y.inputs))
        → Rehearses s task x y stop r
    rehearse_done p h a = rehearses (a ∙ ap (and_then (run_reply (plain_loan k x zero_outputs))) second_same ∙ sym (prepared ∙ rw (sym p ∙ h)))
