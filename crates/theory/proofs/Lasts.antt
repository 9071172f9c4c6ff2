-- A block whose sides are equally long: each of its runs that does not overrun lasts its time. Equalising gives such a block.
use Prim.Native.Nat.{ℕ, zero, suc, ◌+◌, ◌*◌, max}
use native.Mathlib.Omega.{arith}
use mathlib.Core.Path.{◌≡◌, refl, sym, ◌∙◌}
use mathlib.Core.Bool.{Bool, true, false, cond, true≢false}
use mathlib.Core.List.{List, [], ◌++◌, append-nil}
use Rattle.model.specs.declared.Settings.{Settings}
use Rattle.model.specs.Trees.{Test, Block, nil, skip, act, branch, while, times, ◌⧺◌, size}
use Rattle.model.specs.Times.{ticks, time}
use Rattle.model.specs.Runs.{Effect, nothing, duration, variables_after, overran, holds, last_test, effect, Run, ◌⊳◌, single, choose, rounds, run}
use Rattle.model.specs.Equalising.{F, waiting, merge, equalise}
use Rattle.theory.proofs.{Times.time-⧺, Times.time_merge, Times.time_equalise, Sequences.duration-++, Sequences.overran-++}

pub record Lasts (f : Run) (n : ℕ) : Type 0 where
  pub in_all : (v : List ℕ) → overran (f v) ≡ false → duration (f v) ≡ n

lasts-⊳ : {f g : Run} {m n : ℕ} → Lasts f m → Lasts g n → Lasts (f ⊳ g) (m + n)
lasts-⊳ {f} {g} {m} {n} p q = record { in_all = λ v h. go v (overran (f v)) refl h }
  where
    go : (v : List ℕ) (o : Bool) → overran (f v) ≡ o → overran (f v ++ cond o [] (g (variables_after (f v) v))) ≡ false
        → duration (f v ++ cond o [] (g (variables_after (f v) v))) ≡ m + n
    go v true e h = absurd (true≢false (sym e ∙ (rw append-nil at h)))
    go v false e h =
        let w = variables_after (f v) v in
        let h' : overran (g w) ≡ false = rw (overran-++ (f v), e) at h in
        omega (arith, duration-++ (f v) (g w), p.in_all v e, q.in_all w h')

lasts_rounds : (n : ℕ) {f : Run} {m : ℕ} → Lasts f m → Lasts (rounds n f) (n * m)
lasts_rounds zero p = record { in_all = λ v h. omega arith }
lasts_rounds (suc n) {f} {m} p = record { in_all = λ v h. (lasts-⊳ p (lasts_rounds n p)).in_all v h ∙ omega arith }

pub lasts_if : (q : Test) (i : ℕ) {f g : Run} {m n : ℕ} → Lasts f m → Lasts g n → m ≡ n → Lasts (choose i q f g) (1 + max m n)
lasts_if q i {f} {g} {m} {n} x y e = record { in_all = λ v h. go v (holds q v) h }
  where
    go : (v : List ℕ) (t : Bool) → overran (cond t (f v) (g v)) ≡ false → 1 + duration (cond t (f v) (g v)) ≡ 1 + max m n
    go v true h = omega (arith, x.in_all v h)
    go v false h = omega (arith, y.in_all v h)

pub lasts_single : (d i : ℕ) (w : List ℕ → Effect) → Lasts (single d i w) d
lasts_single d i w = record { in_all = λ v h. omega arith }

-- both sides of each IF last equally long, and there is no WHILE
abbrev pub Even : Settings → Block → Type 0
Even σ nil = Unit {0}
Even σ (skip n b) = Even σ b
Even σ (act p b) = Even σ b
Even σ (branch q a d b) = (time σ a ≡ time σ d) × Even σ a × Even σ d × Even σ b
Even σ (while q n a b) = ⊥
Even σ (times q n a b) = Even σ a × Even σ b

module _ (σ : Settings) where
  pub even_lasts : (ins : List ℕ) (b : Block) (i : ℕ) → Even σ b → Lasts (run σ ins b i) (time σ b)
  even_lasts ins nil i p = record { in_all = λ v h. refl }
  even_lasts ins (skip n b) i p = lasts-⊳ (lasts_single n i (λ v. nothing)) (even_lasts ins b (i + 1) p)
  even_lasts ins (act q b) i p = lasts-⊳ (lasts_single (ticks σ q) i (effect ins q)) (even_lasts ins b (i + 1) p)
  even_lasts ins (branch q a d b) i p =
      lasts-⊳ (lasts_if q i (even_lasts ins a (i + 1) p.1) (even_lasts ins d (i + 2 + size a) p.2) p.0)
      (even_lasts ins b (i + 3 + size a + size d) p.3)
  even_lasts ins (while q n a b) i p = absurd p
  even_lasts ins (times q n a b) i p =
      lasts-⊳ (lasts-⊳ (lasts_rounds n (even_lasts ins a (i + 1) p.0)) (lasts_single 1 i (last_test q)))
      (even_lasts ins b (i + 2 + size a) p.1)

  even-⧺ : (a b : Block) → Even σ a → Even σ b → Even σ (a ⧺ b)
  even-⧺ nil b p q = q
  even-⧺ (skip n a) b p q = even-⧺ a b p q
  even-⧺ (act r a) b p q = even-⧺ a b p q
  even-⧺ (branch r x y a) b p q = (p.0, p.1, p.2, even-⧺ a b p.3 q)
  even-⧺ (while r n x a) b p q = p
  even-⧺ (times r n x a) b p q = (p.0, even-⧺ a b p.1 q)

  even_f : (b : Block) → Even σ (F σ b)
  even_f nil = tt
  even_f (skip n b) = even_f b
  even_f (act p b) = even_f b
  even_f (branch q a d b) = (rw (time-⧺ σ (F σ a), time-⧺ σ (F σ d)) (omega arith), even-⧺ (F σ a) _ (even_f a) tt, even-⧺ (F σ d) _ (even_f d) tt, even_f b)
  even_f (while q n a b) = ((omega arith, even_f a, tt, tt), even_f b)
  even_f (times q n a b) = (even_f a, even_f b)

  even_waiting : (n : ℕ) (b : Block) → Even σ b → Even σ (waiting n b)
  even_waiting zero b p = p
  even_waiting (suc n) b p = p

  even_merge : (b : Block) (n : ℕ) → Even σ b → Even σ (merge n b)
  even_merge nil n p = even_waiting n nil tt
  even_merge (skip m b) n p = even_merge b (n + m) p
  even_merge (act q b) n p = even_waiting n (act q (merge 0 b)) (even_merge b 0 p)
  even_merge (branch q a d b) n p =
      even_waiting n (branch q (merge 0 a) (merge 0 d) (merge 0 b))
      (rw (time_merge σ a 0, time_merge σ d 0, p.0), even_merge a 0 p.1, even_merge d 0 p.2, even_merge b 0 p.3)
  even_merge (while q m a b) n p = absurd p
  even_merge (times q m a b) n p = even_waiting n (times q m (merge 0 a) (merge 0 b)) (even_merge a 0 p.0, even_merge b 0 p.1)

  pub equalised_lasts : (ins : List ℕ) (b : Block) (i : ℕ) → Lasts (run σ ins (equalise σ b) i) (time σ b)
  unfolding equalise
  equalised_lasts ins b i = record { in_all = λ v h. (even_lasts ins (merge 0 (F σ b)) i (even_merge (F σ b) 0 (even_f b))).in_all v h ∙ time_equalise σ b }
