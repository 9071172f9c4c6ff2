-- A checkpoint image is read back from its 72 bytes.
use Prim.Native.Nat.{ℕ, ◌+◌, ◌*◌}
use native.Mathlib.{Nat.add-zero, Omega.arith}
use mathlib.Core.Path.{◌≡◌, refl, ap, ap₂, sym, subst, ◌∙◌}
use mathlib.Core.List.{List, [], ◌∷◌, ◌++◌}
use lib.{ListN.length, ListN.drop, Seq.get_or-drop, Seq.drop-drop}
use Rattle.model.specs.Records.{word_at, word_bytes}
use Rattle.model.specs.Stopping.{Image, words, words_from, image_bytes, image_of}
use Rattle.laws.proofs.Bytes.{word_back}

pub length_words : (ns : List ℕ) → length (words ns) ≡ 4 * length ns
length_words [] = refl
length_words (n ∷ ns) = omega (arith, length_words ns)

-- numbers whose bytes stand at a place are read from there
read_word : (s zs : List ℕ) (at n : ℕ) → drop at s ≡ word_bytes n ++ zs → word_at s at ≡ n
read_word s zs at n e =
    let there : word_at (drop at s) 0 ≡ word_at s at = simp (get_or-drop, add-zero) in
    sym there ∙ ap (λ (t : List ℕ). word_at t 0) e ∙ word_back n

read_words : (s ns : List ℕ) (at : ℕ) → drop at s ≡ words ns → words_from s at (length ns) ≡ ns
read_words s [] at e = refl
read_words s (n ∷ ns) at e =
    ap₂ (λ (x : ℕ) (xs : List ℕ). x ∷ xs) (read_word s (words ns) at n e) (read_words s ns (at + 4) (sym (drop-drop 4 at s) ∙ ap (drop 4) e))

pub image_length_is : (m : Image) → length m.variables ≡ 16 → length (image_bytes m) ≡ 72
unfolding image_bytes
image_length_is m h = omega (arith, length_words m.variables)

pub image_back : (m : Image) → length m.variables ≡ 16 → image_of (image_bytes m) ≡ m
unfolding image_bytes image_of
image_back m h =
    let s = words (m.index ∷ m.tick ∷ m.variables) in
    subst (λ (k : ℕ). record { index = word_at s 0; tick = word_at s 4; variables = words_from s 8 k } ≡ m) h
    (rw (read_words s m.variables 8 refl, word_back m.index, word_back m.tick))
