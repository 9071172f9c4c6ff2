-- An image in bytes: as it is read, and as it is written piece by piece, by the laws of Over.
use Rattle.std.proofs.Common.{◌≡◌, ℕ, zero, suc, ◌+◌, ◌*◌, ◌<◌, ◌≤◌, List, ◌∷◌, ◌++◌, length, get_or, take, drop}
use Rattle.std.proofs.Common.{sym, refl, ap, ap₂, ◌∙◌}
use native.Mathlib.{Nat.add_assoc, Omega.arith}
use Rattle.std.proofs.lemmas.List.{get_or-drop, get_or-take}
use Rattle.model.specs.{Records.word_at, Records.word_bytes, Records.over, Stopping.words, Stopping.words_from, Stopping.Image, Stopping.image_bytes, Stopping.image_of}
use Rattle.laws.proofs.Images.{length_words, image_length_is}
use Rattle.records.proofs.Over.{Part, part_first, part_lent, part_last, part_length, lent_length, lent, back}
use Rattle.stepping.proofs.BufferLaws.{over_whole}

-- READ

-- numbers that lie in a part
words_in : (s : List ℕ) (k m at n : ℕ) → at + 4 * n ≤ m → words_from (take m (drop k s)) at n ≡ words_from s (k + at) n
words_in s k m at zero h = refl
words_in s k m at (suc n) h =
    let t : List ℕ = take m (drop k s) in
    let byte : (j : ℕ) → j < m → get_or t j 0 ≡ get_or s (k + j) 0 = λ j l. get_or-take m (drop k s) j 0 l ∙ get_or-drop k s j 0 in
    ap₂ (λ (x : ℕ) (xs : List ℕ). x ∷ xs)
    (rw (byte at (omega arith), byte (at + 1) (omega arith), byte (at + 2) (omega arith), byte (at + 3) (omega arith)) (simp add_assoc))
    (rw (add_assoc k at 4) (words_in s k m (at + 4) n (omega arith)))

pub read_is : (s : List ℕ) {v : List ℕ} {m : ℕ} → v ≡ words_from (take m (drop 8 s)) 0 16 → 64 ≤ m
    → record { index = word_at s 0; tick = word_at s 4; variables = v } ≡ image_of s
unfolding image_of
read_is s {v} {m} e l =
    ap (λ (x : List ℕ). let i : Image = record { index = word_at s 0; tick = word_at s 4; variables = x } in i) (e ∙ words_in s 8 m 0 16 l)

-- WRITTEN

-- the index, then the tick, then the variables
pub written_is : (m : Image) (old : List ℕ) {one two ys zs : List ℕ} → length m.variables ≡ 16 → length old ≡ 72 → one ≡ over (word_bytes m.index) old
    → ys ≡ over (word_bytes m.tick) (lent one 4) → two ≡ back one 4 ys → zs ≡ words m.variables → back two 8 zs ≡ image_bytes m
unfolding image_bytes
written_is m old {one} {two} {ys} {zs} n h e f g k =
    let v : List ℕ = words m.variables in
    let w : List ℕ = word_bytes m.index ++ (word_bytes m.tick ++ v) in
    let l : length w ≡ length old = omega (arith, image_length_is m n) in
    let p : Part w (word_bytes m.tick ++ v) old one 4 = part_first (word_bytes m.index) (omega arith) e refl in
    let q : Part w v old two 8 = rw g (part_lent (word_bytes m.tick) p f refl) in
    let r : length v ≡ length (lent two 8) = omega (arith, lent_length two 8, part_length q, length_words m.variables) in
    part_last q (k ∙ sym (over_whole v (lent two 8) r)) ∙ over_whole w old l
