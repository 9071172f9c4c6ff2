-- What an answer in ticks says of a time, both ways, and the times of an IF and of a loop from those of their parts.
use Prim.Native.Nat.{ℕ, ◌+◌, ◌*◌, ◌≤◌, ◌<◌, max}
use native.Mathlib.{Nat.mul-le-mul_right, Omega.arith}
use mathlib.Core.Path.{◌≡◌, refl, ap, sym, subst, ◌∙◌}
use mathlib.Core.Bool.{Bool, true, false, cond}
use lib.Dec.{eqb, ltb}
use borrow.Author.Tests.{lt-ltb, le-ltb, ltb-true, ltb-false}
use Rattle.std.specs.Prelude.{Option, None, Some}
use Rattle.model.specs.Records.{WHILE}
use Rattle.timing.specs.Times.{Gives, round_ticks}

pub gives_ticks : (p t : ℕ) → t ≤ p → Gives p t (Some t)
gives_ticks p t l = simp (le-ltb p t l)

pub gives_over : (p t : ℕ) → p < t → Gives p t None
gives_over p t l = simp (lt-ltb p t l)

pub was_ticks : (p t u : ℕ) → Gives p t (Some u) → (t ≡ u) × (u ≤ p)
was_ticks p t u g = go (ltb p t) refl g
  where
    go : (o : Bool) → ltb p t ≡ o → Some u ≡ cond o None (Some t) → (t ≡ u) × (u ≤ p)
    go true h e = let z : ◌≡◌ {A = ℕ} 0 1 = cc in absurd (omega arith)
    go false h e = let q : t ≡ u = cc in (q, omega (arith, ltb-false p t h))

pub was_over : (p t : ℕ) → Gives p t None → p < t
was_over p t g = go (ltb p t) refl g
  where
    go : (o : Bool) → ltb p t ≡ o → ◌≡◌ {A = Option ℕ} None (cond o None (Some t)) → p < t
    go true h e = ltb-true p t h
    go false h e = let z : ◌≡◌ {A = ℕ} 0 1 = cc in absurd (omega arith)

module _ (p t u : ℕ) where
  pub branch_left : Gives p t None → Gives p (1 + max t u) None
  branch_left g = let h = was_over p t g in gives_over p (1 + max t u) (omega arith)

  pub branch_right : Gives p u None → Gives p (1 + max t u) None
  branch_right g = let h = was_over p u g in gives_over p (1 + max t u) (omega arith)

  pub branch_both : (x y z : ℕ) (r : Option ℕ) → Gives p t (Some x) → Gives p u (Some y) → z ≡ 1 + max x y → Gives p z r → Gives p (1 + max t u) r
  branch_both x y z r g h e k =
      let a = was_ticks p t x g in
      let b = was_ticks p u y h in
      let q : z ≡ 1 + max t u = omega arith in
      subst (λ (n : ℕ). Gives p n r) q k

-- a loop with at least one round takes longer than its body
longer : (test : Bool) (n t : ℕ) → 1 ≤ n → t ≤ n * cond test (t + 1) t
longer true n t h = omega (arith, mul-le-mul_right (t + 1) h)
longer false n t h = omega (arith, mul-le-mul_right t h)

pub loop_over : (p k n t : ℕ) → 1 ≤ n → Gives p t None → Gives p (n * round_ticks k t + 1) None
loop_over p k n t h g =
    let o = was_over p t g in
    gives_over p (n * round_ticks k t + 1) (omega (arith, longer (eqb k WHILE) n t h))

pub loop_all : (p k n t x e : ℕ) (r : Option ℕ) → Gives p t (Some x) → e ≡ round_ticks k x → Gives p (n * e + 1) r → Gives p (n * round_ticks k t + 1) r
loop_all p k n t x e r g h q =
    let a = was_ticks p t x g in
    let same : e ≡ round_ticks k t = h ∙ ap (round_ticks k) (sym a.0) in
    subst (λ (m : ℕ). Gives p (n * m + 1) r) same q
