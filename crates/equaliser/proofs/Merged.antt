-- An equalised block statement by statement: what is written for each, and how many records.
use Prim.Native.Nat.{ℕ, ◌+◌, ◌*◌, ◌-◌, ◌≤◌}
use native.Mathlib.{Nat.add-zero, Nat.zero-add, Omega.arith}
use mathlib.Core.Path.{◌≡◌, refl, ap, sym, ◌∙◌}
use Rattle.model.specs.declared.Settings.{Settings}
use Rattle.model.specs.Trees.{Block, nil, skip, act, branch, while, times, ◌⧺◌, size}
use Rattle.model.specs.Times.{time}
use Rattle.model.specs.Equalising.{pad, F, waiting, merge, equalise}
use Rattle.theory.proofs.Times.{time_f}
use Rattle.records.proofs.Blocks.{waiting-⧺, size-⧺, size_waiting, one_skip}
use Rattle.reading.specs.Ranges.{after_first}
use Rattle.timing.specs.Blocks.{first_time}
use Rattle.equaliser.specs.Merged.{padded, branch_out, loop_out, first_out, first_waits}

-- MERGING

merge_pad : (b : Block) (n : ℕ) → merge n (b ⧺ pad 0) ≡ merge n b
merge_pad nil n = ap (λ (m : ℕ). waiting m nil) (add-zero n)
merge_pad (skip m b) n = merge_pad b (n + m)
merge_pad (act p b) n = rw (merge_pad b 0)
merge_pad (branch q a d b) n = rw (merge_pad b 0)
merge_pad (while q m a b) n = rw (merge_pad b 0)
merge_pad (times q m a b) n = rw (merge_pad b 0)

module _ (σ : Settings) where
  -- nothing waits and nothing is added
  pub equalise_padded : (b : Block) → equalise σ b ≡ padded σ 0 b 0
  unfolding equalise
  equalise_padded b = sym (merge_pad (F σ b) 0)

  -- the first statement, and what follows it
  pub padded_first : (n : ℕ) (b : Block) (k : ℕ) → padded σ n b k ≡ first_out σ n b ⧺ padded σ (first_waits n b) (after_first b) k
  padded_first n nil k = refl
  padded_first n (skip m b) k = refl
  padded_first n (act p b) k = sym (waiting-⧺ n (act p nil) (padded σ 0 b k))
  padded_first n (branch q a d b) k = rw (time_f σ a, time_f σ d) (sym (waiting-⧺ n (branch_out σ q a d) (padded σ 0 b k)))
  padded_first n (while q m a b) k = rw (time_f σ a, ← merge_pad (F σ a) 0, zero-add (time σ a)) (sym (waiting-⧺ n (loop_out σ q m a) (padded σ 0 b k)))
  padded_first n (times q m a b) k = rw (← merge_pad (F σ a) 0) (sym (waiting-⧺ n (times q m (padded σ 0 a 0) nil) (padded σ 0 b k)))

  -- a tick waits only once it has been read
  pub waits_less : (n : ℕ) (b : Block) → first_waits n b ≤ n + first_time σ b
  waits_less n nil = omega arith
  waits_less n (skip m b) = omega arith
  waits_less n (act p b) = omega arith
  waits_less n (branch q a d b) = omega arith
  waits_less n (while q m a b) = omega arith
  waits_less n (times q m a b) = omega arith

-- SIZES

module _ (σ : Settings) where
  pub size_first : (n : ℕ) (b : Block) (k : ℕ) → size (padded σ n b k) ≡ size (first_out σ n b) + size (padded σ (first_waits n b) (after_first b) k)
  size_first n b k = ap size (padded_first σ n b k) ∙ size-⧺ (first_out σ n b) (padded σ (first_waits n b) (after_first b) k)

  -- at most four records for each
  pub padded_small : (b : Block) (n k : ℕ) → size (padded σ n b k) ≤ 4 * size b + 1
  padded_small nil n k = one_skip (n + k)
  padded_small (skip m b) n k = omega (arith, padded_small b (n + m) k)
  padded_small (act p b) n k = rw (size_waiting n) (omega (arith, one_skip n, padded_small b 0 k))
  padded_small (branch q a d b) n k =
      rw (size_waiting n)
      (omega (arith, one_skip n, padded_small a 0 (time σ (F σ d) - time σ (F σ a)), padded_small d 0 (time σ (F σ a) - time σ (F σ d)), padded_small b 0 k))
  padded_small (while q m a b) n k =
      rw (size_waiting n, ← merge_pad (F σ a) 0) (omega (arith, one_skip n, padded_small a 0 0, one_skip (0 + time σ (F σ a)), padded_small b 0 k))
  padded_small (times q m a b) n k = rw (size_waiting n, ← merge_pad (F σ a) 0) (omega (arith, one_skip n, padded_small a 0 0, padded_small b 0 k))
