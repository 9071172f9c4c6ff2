-- Merging from left to right: what is settled of two blocks, and blocks that merge alike.
use Prim.Native.Nat.{ℕ, ◌+◌}
use native.Mathlib.{Omega.arith, Nat.add-zero, Nat.add_assoc}
use mathlib.Core.Path.{◌≡◌, refl, ap, ap₂, sym, ◌∙◌}
use mathlib.Core.List.{◌++◌}
use Rattle.model.specs.declared.Settings.{Settings}
use Rattle.model.specs.Trees.{Block, nil, skip, act, branch, while, times, ◌⧺◌, size}
use Rattle.model.specs.{Times.time, Equalising.waiting, Equalising.merge}
use Rattle.theory.proofs.Times.{time-⧺}
use Rattle.records.specs.Blocks.{block_bytes, skip_records, skip_bytes}
use Rattle.records.proofs.Blocks.{waiting-⧺, size-⧺, bytes-⧺}
use Rattle.placing.specs.Merging.{settled, waits}

pub settled-⧺ : (n : ℕ) (a b : Block) → settled n (a ⧺ b) ≡ settled n a ⧺ settled (waits n a) b
settled-⧺ n nil b = refl
settled-⧺ n (skip m a) b = settled-⧺ (n + m) a b
settled-⧺ n (act p a) b = ap (λ (c : Block). waiting n (act p c)) (settled-⧺ 0 a b) ∙ sym (waiting-⧺ n (act p (settled 0 a)) (settled (waits 0 a) b))
settled-⧺ n (branch q x y a) b =
    ap (λ (c : Block). waiting n (branch q (merge 0 x) (merge 0 y) c)) (settled-⧺ 0 a b)
    ∙ sym (waiting-⧺ n (branch q (merge 0 x) (merge 0 y) (settled 0 a)) (settled (waits 0 a) b))
settled-⧺ n (while q m x a) b =
    ap (λ (c : Block). waiting n (while q m (merge 0 x) c)) (settled-⧺ 0 a b) ∙ sym (waiting-⧺ n (while q m (merge 0 x) (settled 0 a)) (settled (waits 0 a) b))
settled-⧺ n (times q m x a) b =
    ap (λ (c : Block). waiting n (times q m (merge 0 x) c)) (settled-⧺ 0 a b) ∙ sym (waiting-⧺ n (times q m (merge 0 x) (settled 0 a)) (settled (waits 0 a) b))

pub waits-⧺ : (n : ℕ) (a b : Block) → waits n (a ⧺ b) ≡ waits (waits n a) b
waits-⧺ n nil b = refl
waits-⧺ n (skip m a) b = waits-⧺ (n + m) a b
waits-⧺ n (act p a) b = waits-⧺ 0 a b
waits-⧺ n (branch q x y a) b = waits-⧺ 0 a b
waits-⧺ n (while q m x a) b = waits-⧺ 0 a b
waits-⧺ n (times q m x a) b = waits-⧺ 0 a b

-- what waits at the end is written there
pub merge_settled : (n : ℕ) (b : Block) → merge n b ≡ settled n b ⧺ waiting (waits n b) nil
merge_settled n nil = refl
merge_settled n (skip m b) = merge_settled (n + m) b
merge_settled n (act p b) = ap (λ (c : Block). waiting n (act p c)) (merge_settled 0 b) ∙ sym (waiting-⧺ n (act p (settled 0 b)) (waiting (waits 0 b) nil))
merge_settled n (branch q x y b) =
    ap (λ (c : Block). waiting n (branch q (merge 0 x) (merge 0 y) c)) (merge_settled 0 b)
    ∙ sym (waiting-⧺ n (branch q (merge 0 x) (merge 0 y) (settled 0 b)) (waiting (waits 0 b) nil))
merge_settled n (while q m x b) =
    ap (λ (c : Block). waiting n (while q m (merge 0 x) c)) (merge_settled 0 b)
    ∙ sym (waiting-⧺ n (while q m (merge 0 x) (settled 0 b)) (waiting (waits 0 b) nil))
merge_settled n (times q m x b) =
    ap (λ (c : Block). waiting n (times q m (merge 0 x) c)) (merge_settled 0 b)
    ∙ sym (waiting-⧺ n (times q m (merge 0 x) (settled 0 b)) (waiting (waits 0 b) nil))

-- SIZES AND BYTES

pub size_settled : (n : ℕ) (a b : Block) → size (settled n (a ⧺ b)) ≡ size (settled n a) + size (settled (waits n a) b)
size_settled n a b = ap size (settled-⧺ n a b) ∙ size-⧺ (settled n a) (settled (waits n a) b)

pub size_merge : (n : ℕ) (b : Block) → size (merge n b) ≡ size (settled n b) + skip_records (waits n b)
size_merge n b = ap size (merge_settled n b) ∙ size-⧺ (settled n b) (waiting (waits n b) nil)

pub bytes_settled : (n : ℕ) (a b : Block) → block_bytes (settled n (a ⧺ b)) ≡ block_bytes (settled n a) ++ block_bytes (settled (waits n a) b)
bytes_settled n a b = ap block_bytes (settled-⧺ n a b) ∙ bytes-⧺ (settled n a) (settled (waits n a) b)

pub bytes_merge : (n : ℕ) (b : Block) → block_bytes (merge n b) ≡ block_bytes (settled n b) ++ skip_bytes (waits n b)
bytes_merge n b = ap block_bytes (merge_settled n b) ∙ bytes-⧺ (settled n b) (waiting (waits n b) nil)

-- ALIKE

-- blocks that take the same time and are merged to the same records
pub record Alike (σ : Settings) (a b : Block) : Type 0 where
  pub lasts : time σ a ≡ time σ b
  pub settles : (n : ℕ) → settled n a ≡ settled n b
  pub leaves : (n : ℕ) → waits n a ≡ waits n b

module _ {σ : Settings} where
  pub alike_eq : {a b : Block} → a ≡ b → Alike σ a b
  alike_eq e = record { lasts = ap (time σ) e; settles = λ n. ap (settled n) e; leaves = λ n. ap (waits n) e }

  pub alike_sym : {a b : Block} → Alike σ a b → Alike σ b a
  alike_sym e = record { lasts = sym e.lasts; settles = λ n. sym (e.settles n); leaves = λ n. sym (e.leaves n) }

  pub alike_trans : {a b c : Block} → Alike σ a b → Alike σ b c → Alike σ a c
  alike_trans e f = record { lasts = e.lasts ∙ f.lasts; settles = λ n. e.settles n ∙ f.settles n; leaves = λ n. e.leaves n ∙ f.leaves n }

  pub alike-⧺ : {a b : Block} (c d : Block) → Alike σ a b → Alike σ c d → Alike σ (a ⧺ c) (b ⧺ d)
  alike-⧺ {a} {b} c d e f = record {
    lasts = time-⧺ σ a c ∙ ap₂ ◌+◌ e.lasts f.lasts ∙ sym (time-⧺ σ b d);
    settles = λ n.
        settled-⧺ n a c
        ∙ ap₂ ◌⧺◌ (e.settles n) (ap (λ (m : ℕ). settled m c) (e.leaves n) ∙ f.settles (waits n b))
        ∙ sym (settled-⧺ n b d);
    leaves = λ n. waits-⧺ n a c ∙ ap (λ (m : ℕ). waits m c) (e.leaves n) ∙ f.leaves (waits n b) ∙ sym (waits-⧺ n b d);
  }

  -- a SKIP of no ticks is none
  pub alike_skip : (b : Block) → Alike σ (skip 0 b) b
  alike_skip b = record { lasts = omega arith; settles = λ n. ap (λ (m : ℕ). settled m b) (add-zero n); leaves = λ n. ap (λ (m : ℕ). waits m b) (add-zero n) }

  -- two SKIPs in a row
  pub alike_skips : (m n : ℕ) (b : Block) → Alike σ (skip m (skip n b)) (skip (m + n) b)
  alike_skips m n b = record {
    lasts = omega arith;
    settles = λ k. ap (λ (i : ℕ). settled i b) (add_assoc k m n);
    leaves = λ k. ap (λ (i : ℕ). waits i b) (add_assoc k m n);
  }
