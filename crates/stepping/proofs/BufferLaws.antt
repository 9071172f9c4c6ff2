-- Numbers read from bytes and written as bytes, by the laws of Over.
use Rattle.std.proofs.Common.{◌≡◌, ℕ, zero, suc, ◌+◌, ◌-◌, ◌*◌, ◌<◌, ◌≤◌, List, [], ◌∷◌, ◌++◌, length, get_or, drop, set}
use Rattle.std.proofs.Common.{sym, refl, ap, ◌∙◌, subst, append-nil, drop_of_length-le, drop-cons}
use native.Mathlib.{Nat.sub-zero, Numerals.add-one, Omega.arith}
use Rattle.model.specs.{Records.word_at, Records.word_bytes, Records.over, Stopping.words, Stopping.words_from}
use Rattle.laws.proofs.Images.{length_words}
use Rattle.records.proofs.Over.{Part, part_start, part_put, part_lent, part_end, lent, back}

-- a list laid over a buffer of its own length is the whole buffer
pub over_whole : (w old : List ℕ) → length w ≡ length old → over w old ≡ w
over_whole w old e = rw (drop_of_length-le old {i = length w} (omega arith), append-nil w)

whole : {w old new : List ℕ} {at : ℕ} → length w ≡ length old → Part w [] old new at → new ≡ w
whole {w} {old} e p = (part_end p).0 ∙ over_whole w old e

-- NUMBERS READ

length_from : (s : List ℕ) (at n : ℕ) → length (words_from s at n) ≡ n
length_from s at zero = refl
length_from s at (suc n) = ap suc (length_from s (at + 4) n)

-- the first i numbers are read
pub record Loaded (s old new : List ℕ) (i : ℕ) : Type 0 where
  pub part : Part (words_from s 0 (length old)) (words_from s (4 * i) (length old - i)) old new i

pub loaded_start : {s old : List ℕ} → Loaded s old old 0
loaded_start {s} {old} =
    let w : List ℕ = words_from s 0 (length old) in
    record { part = rw (sub-zero (length old)) (part_start w old (omega (arith, length_from s 0 (length old)))) }

pub loaded_step : {s old new : List ℕ} {i x : ℕ} → Loaded s old new i → i < length old → x ≡ word_at s (4 * i) → Loaded s old (set new i x) (i + 1)
loaded_step {s} {old} {new} {i} {x} p h e =
    let w : List ℕ = words_from s 0 (length old) in
    let rest : List ℕ = words_from s (4 * (i + 1)) (length old - (i + 1)) in
    let n : length old - i ≡ suc (length old - (i + 1)) = omega arith in
    let k : 4 * i + 4 ≡ 4 * (i + 1) = omega arith in
    let d : words_from s (4 * i) (length old - i) ≡ x ∷ rest = rw (n, k, e) in
    let q : Part w rest old (set new i x) (i + 1) = part_put (subst (λ (t : List ℕ). Part w t old new i) d p.part) in
    record { part = q }

pub loaded_end : {s old new : List ℕ} {i : ℕ} → Loaded s old new i → length old ≤ i → new ≡ words_from s 0 (length old)
loaded_end {s} {old} {new} {i} p h =
    let n : length old - i ≡ 0 = omega arith in
    whole (length_from s 0 (length old)) (subst (λ (m : ℕ). Part (words_from s 0 (length old)) (words_from s (4 * i) m) old new i) n p.part)

-- NUMBERS WRITTEN

-- the bytes of the first i numbers are written
pub record Written (from old new : List ℕ) (i : ℕ) : Type 0 where
  pub part : Part (words from) (words (drop i from)) old new (4 * i)

pub written_start : {from old : List ℕ} → length old ≡ 4 * length from → Written from old old 0
written_start {from} {old} e = record { part = part_start (words from) old (omega (arith, length_words from)) }

pub written_step : {from old new ys : List ℕ} {i : ℕ} → Written from old new i → i < length from
    → ys ≡ over (word_bytes (get_or from i 0)) (lent new (4 * i)) → Written from old (back new (4 * i) ys) (i + 1)
written_step {from} {old} {new} {ys} {i} p h e =
    let w : List ℕ = words from in
    let rest : List ℕ = words (drop (i + 1) from) in
    let b : List ℕ = word_bytes (get_or from i 0) in
    let k : 4 * i + 4 ≡ 4 * (i + 1) = omega arith in
    let d : drop i from ≡ get_or from i 0 ∷ drop (i + 1) from = rw (add-one, drop-cons from i 0) in
    let r : Part w (b ++ rest) old new (4 * i) = subst (λ (t : List ℕ). Part w (words t) old new (4 * i)) d p.part in
    let q : Part w rest old (back new (4 * i) ys) (4 * (i + 1)) = subst (λ (m : ℕ). Part w rest old (back new (4 * i) ys) m) k (part_lent b r e refl) in
    record { part = q }

pub written_end : {from old new : List ℕ} {i : ℕ} → Written from old new i → length old ≡ 4 * length from → length from ≤ i → new ≡ words from
written_end {from} {old} {new} {i} p e h =
    whole (length_words from ∙ sym e) (subst (λ (t : List ℕ). Part (words from) (words t) old new (4 * i)) (drop_of_length-le from h) p.part)
