-- Equalising, merging and unrolling keep a block's time.
use Prim.Native.Nat.{ℕ, zero, suc, ◌+◌, ◌*◌, max}
use native.Mathlib.Omega.{arith}
use mathlib.Core.Path.{◌≡◌, refl, ◌∙◌}
use Rattle.model.specs.declared.Settings.{Settings}
use Rattle.model.specs.Trees.{Block, nil, skip, act, branch, while, times, ◌⧺◌}
use Rattle.model.specs.{Times.time, Layout.copies, Layout.unroll}
use Rattle.model.specs.Equalising.{F, waiting, merge, equalise}

module _ (σ : Settings) where
  pub time-⧺ : (a b : Block) → time σ (a ⧺ b) ≡ time σ a + time σ b
  time-⧺ nil b = omega arith
  time-⧺ (skip n a) b = omega (arith, time-⧺ a b)
  time-⧺ (act p a) b = omega (arith, time-⧺ a b)
  time-⧺ (branch q x y a) b = omega (arith, time-⧺ a b)
  time-⧺ (while q n x a) b = omega (arith, time-⧺ a b)
  time-⧺ (times q n x a) b = omega (arith, time-⧺ a b)

  pub time_f : (b : Block) → time σ (F σ b) ≡ time σ b
  time_f nil = refl
  time_f (skip n b) = rw (time_f b)
  time_f (act p b) = rw (time_f b)
  time_f (branch q a d b) = rw (time-⧺ (F σ a), time-⧺ (F σ d), time_f a, time_f d, time_f b) (omega arith)
  time_f (while q n a b) = let e : 1 + max (time σ a) (time σ a + 0) + 0 ≡ time σ a + 1 = omega arith in rw (time_f a, time_f b, e)
  time_f (times q n a b) = rw (time_f a, time_f b)

  time_waiting : (n : ℕ) (b : Block) → time σ (waiting n b) ≡ n + time σ b
  time_waiting zero b = omega arith
  time_waiting (suc n) b = refl

  pub time_merge : (b : Block) (n : ℕ) → time σ (merge n b) ≡ n + time σ b
  time_merge nil n = time_waiting n nil
  time_merge (skip m b) n = time_merge b (n + m) ∙ omega arith
  time_merge (act p b) n = rw (time_waiting n) (omega (arith, time_merge b 0))
  time_merge (branch q a d b) n = rw (time_waiting n, time_merge a 0, time_merge d 0) (omega (arith, time_merge b 0))
  time_merge (while q m a b) n = rw (time_waiting n, time_merge a 0) (omega (arith, time_merge b 0))
  time_merge (times q m a b) n = rw (time_waiting n, time_merge a 0) (omega (arith, time_merge b 0))

  pub time_equalise : (b : Block) → time σ (equalise σ b) ≡ time σ b
  unfolding equalise
  time_equalise b = time_merge (F σ b) 0 ∙ omega (arith, time_f b)

  time_copies : (n : ℕ) (b : Block) → time σ (copies n b) ≡ n * time σ b
  time_copies zero b = omega arith
  time_copies (suc n) b = omega (arith, time-⧺ b (copies n b), time_copies n b)

  pub time_unroll : (b : Block) → time σ (unroll b) ≡ time σ b
  time_unroll nil = refl
  time_unroll (skip n b) = rw (time_unroll b)
  time_unroll (act p b) = rw (time_unroll b)
  time_unroll (branch q a d b) = rw (time_unroll a, time_unroll d, time_unroll b)
  time_unroll (while q n a b) = rw (time_unroll a, time_unroll b)
  time_unroll (times q n a b) = rw (time-⧺ (copies n (unroll a)), time_copies n (unroll a), time_unroll a, time_unroll b) (omega arith)
