-- One slice over another, element by element.
use Rattle.std.proofs.Common.{◌≡◌, ℕ, suc, ◌+◌, ◌<◌, ◌≤◌, List, ◌++◌, length, get_or, take, drop, set}
use Rattle.std.proofs.Common.{refl, ◌∙◌, append_assoc, append-nil, length-set, drop_of_length-le, length-take-le, take_all, drop-cons, take-suc}
use native.Mathlib.{Numerals.add-one, Omega.arith}
use lib.Seq.{set_at}

-- the first i are copied
pub record Copied (from old new : List ℕ) (i : ℕ) : Type 0 where
  pub upto : i ≤ length old
  pub size : length new ≡ length old
  pub holds : new ≡ take i from ++ drop i old

pub copied_start : (from old : List ℕ) → Copied from old old 0
copied_start from old = record { upto = omega arith; size = refl; holds = refl }

pub copied_step : {from old new : List ℕ} {i : ℕ} → length from ≡ length old → Copied from old new i → i < length new
    → Copied from old (set new i (get_or from i 0)) (i + 1)
copied_step {from} {old} {new} {i} l p h =
    let g : i < length old = omega arith in
    let f : i < length from = omega arith in
    record {
      upto = omega arith;
      size = length-set new i (get_or from i 0) ∙ p.size;
      holds =
          rw (p.holds, drop-cons old i 0 g)
          (set_at (take i from) (get_or old i 0) (drop (suc i) old) (get_or from i 0) i (length-take-le i from (omega arith))
          ∙ rw (add-one, take-suc from i 0 f, append_assoc));
    }

pub copied_end : {from old new : List ℕ} {i : ℕ} → length from ≡ length old → Copied from old new i → length new ≤ i → new ≡ from
copied_end {from} {old} {new} {i} l p h = p.holds ∙ rw (take_all i from (omega arith), drop_of_length-le old {i = i} (omega arith), append-nil)
