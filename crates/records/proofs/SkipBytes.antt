-- The bytes of a SKIP, if any ticks wait.
use Rattle.std.proofs.Common.{◌≡◌, ℕ, zero, suc, ◌≤◌, List, [], length, sym, refl, ap, ◌∙◌, arith}
use Rattle.model.specs.{Records.record_bytes, Records.bytes, Records.over, Trees.skip_rec, Trees.linearise}
use Rattle.records.specs.Blocks.{block_bytes, skip_bytes, Wrote}

-- no ticks are no record
skip_none : (n : ℕ) → n ≡ 0 → skip_bytes n ≡ []
unfolding block_bytes linearise bytes
skip_none zero e = refl
skip_none (suc n) e = absurd (omega arith)

skip_one : (n : ℕ) → (n ≡ 0 → ⊥) → skip_bytes n ≡ record_bytes (skip_rec n)
unfolding block_bytes linearise bytes
skip_one zero h = absurd (h refl)
skip_one (suc n) h = refl

pub none_written : (n : ℕ) (old : List ℕ) → n ≡ 0 → Wrote (skip_bytes n) old old 0
none_written n old e = record { laid = ap (λ (bs : List ℕ). over bs old) (sym (skip_none n e)); count = ap length (sym (skip_none n e)) }

pub one_room : (n m : ℕ) → (n ≡ 0 → ⊥) → length (skip_bytes n) ≤ m → 12 ≤ m
one_room n m h l = omega (arith, ap length (skip_one n h))

pub one_written : (n : ℕ) (old : List ℕ) {new : List ℕ} → (n ≡ 0 → ⊥) → new ≡ over (record_bytes (skip_rec n)) old → Wrote (skip_bytes n) old new 12
one_written n old h e = record { laid = e ∙ ap (λ (bs : List ℕ). over bs old) (sym (skip_one n h)); count = ap length (sym (skip_one n h)) }
