-- No run of a block lasts longer than the block's time, overrun or not.
use Prim.Native.Nat.{ℕ, zero, suc, ◌+◌, ◌*◌, max, ◌≤◌}
use native.Mathlib.Omega.{arith}
use mathlib.Core.{Bool.cond, List.List, List.[]}
use Rattle.model.specs.declared.Settings.{Settings}
use Rattle.model.specs.Trees.{Test, Block, nil, skip, act, branch, while, times, size}
use Rattle.model.specs.Times.{ticks, time}
use Rattle.model.specs.Runs.{Effect, nothing, Step, duration, variables_after, overran, holds, last_test, effect, Run, ◌⊳◌, single, choose, spin, rounds, run}
use Rattle.theory.proofs.Sequences.{duration-++, either}

pub record Within (f : Run) (n : ℕ) : Type 0 where
  pub in_all : (v : List ℕ) → duration (f v) ≤ n

within-⊳ : {f g : Run} {m n : ℕ} → Within f m → Within g n → Within (f ⊳ g) (m + n)
within-⊳ {f} {g} {m} {n} p q = record {
  in_all = λ v.
      let w = variables_after (f v) v in
      let rest : duration (cond (overran (f v)) [] (g w)) ≤ n = either (λ (es : List Step). duration es ≤ n) (overran (f v)) [] (g w) (omega arith) (q.in_all w) in
      omega (arith, duration-++ (f v) (cond (overran (f v)) [] (g w)), p.in_all v);
}

within_single : (d i : ℕ) (w : List ℕ → Effect) → Within (single d i w) d
within_single d i w = record { in_all = λ v. omega arith }

within_choose : (q : Test) (i : ℕ) {f g : Run} {m n : ℕ} → Within f m → Within g n → Within (choose i q f g) (1 + max m n)
within_choose q i {f} {g} {m} {n} x y = record {
  in_all = λ v.
      let rest : duration (cond (holds q v) (f v) (g v)) ≤ max m n =
      either (λ (es : List Step). duration es ≤ max m n) (holds q v) (f v) (g v) (omega (arith, x.in_all v)) (omega (arith, y.in_all v)) in
      omega arith;
}

within_rounds : (n : ℕ) {f : Run} {m : ℕ} → Within f m → Within (rounds n f) (n * m)
within_rounds zero p = record { in_all = λ v. omega arith }
within_rounds (suc n) {f} {m} p = record { in_all = λ v. omega (arith, (within-⊳ p (within_rounds n p)).in_all v) }

within_nil : Within (λ v. []) 0
within_nil = record { in_all = λ v. omega arith }

within_spin : (n i : ℕ) (q : Test) {f : Run} {m : ℕ} → Within f m → Within (spin i n q f) (n * (m + 1) + 1)
within_spin zero i q p = record { in_all = λ v. omega arith }
within_spin (suc n) i q {f} {m} p = record { in_all = λ v. omega (arith, (within_choose q i (within-⊳ p (within_spin n i q p)) within_nil).in_all v) }

module _ (σ : Settings) (ins : List ℕ) where
  pub run_within : (b : Block) (i : ℕ) → Within (run σ ins b i) (time σ b)
  run_within nil i = record { in_all = λ v. omega arith }
  run_within (skip n b) i = within-⊳ (within_single n i (λ v. nothing)) (run_within b (i + 1))
  run_within (act p b) i = within-⊳ (within_single (ticks σ p) i (effect ins p)) (run_within b (i + 1))
  run_within (branch q a d b) i = within-⊳ (within_choose q i (run_within a (i + 1)) (run_within d (i + 2 + size a))) (run_within b (i + 3 + size a + size d))
  run_within (while q n a b) i = within-⊳ (within_spin n i q (run_within a (i + 1))) (run_within b (i + 2 + size a))
  run_within (times q n a b) i = within-⊳ (within-⊳ (within_rounds n (run_within a (i + 1))) (within_single 1 i (last_test q))) (run_within b (i + 2 + size a))
