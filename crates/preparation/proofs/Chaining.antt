-- Calls one after another, up to the first that refuses.
use Prim.Native.Nat.{ℕ}
use native.Mathlib.Omega.{arith}
use mathlib.Core.{Path.◌≡◌, Path.refl, Bool.true, List.List}
use Rattle.model.specs.declared.Refusal.{Refusal}
use Rattle.model.specs.Answers.{Verdict, finished, refused, refusal, and_then, is_finished}

-- a refusal is no finished result
pub never_finished : {A : Type 0} (x : Refusal) (xs : List ℕ) → refusal x ≡ finished xs → A
never_finished x xs e = let z : ◌≡◌ {A = ℕ} 0 1 = cc in absurd (omega arith)

-- it ends the chain
ended : (x : Refusal) (v next : Verdict) → refusal x ≡ v → refusal x ≡ and_then v next
ended x (finished xs) next e = never_finished x xs e
ended x (refused n ys) next e = e

pub refused_first : (x : Refusal) {v : Verdict} (next : Verdict) → refusal x ≡ v → refusal x ≡ and_then v next
refused_first x {v} next e = ended x v next e

pub refused_second : (x : Refusal) (v w next : Verdict) → refusal x ≡ and_then v w → refusal x ≡ and_then v (and_then w next)
refused_second x (finished xs) w next e = refused_first x next e
refused_second x (refused n ys) w next e = e

-- where both calls finished, the second gave the result
pub first_done : (v w : Verdict) {xs : List ℕ} → finished xs ≡ and_then v w → is_finished v ≡ true
first_done (finished ys) w e = refl
first_done (refused n ys) w e = let z : ◌≡◌ {A = ℕ} 0 1 = cc in absurd (omega arith)

pub both_done : (v w next : Verdict) {xs : List ℕ} → finished xs ≡ and_then v w → and_then v next ≡ next
both_done (finished ys) w next e = refl
both_done (refused n ys) w next e = let z : ◌≡◌ {A = ℕ} 0 1 = cc in absurd (omega arith)

pub second_done : (v w : Verdict) {xs : List ℕ} → finished xs ≡ and_then v w → finished xs ≡ w
second_done (finished ys) w e = e
second_done (refused n ys) w e = let z : ◌≡◌ {A = ℕ} 0 1 = cc in absurd (omega arith)
