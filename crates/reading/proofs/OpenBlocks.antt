-- What a record makes of the open blocks, held as two numbers.
use Prim.Native.Nat.{ℕ, ◌+◌, ◌*◌, ◌-◌, ◌/◌, ◌%◌, ◌^◌, ◌≤◌, ◌<◌}
use native.Mathlib.{Omega.arith, Nat.two-pow-succ}
use mathlib.Core.Path.{◌≡◌, refl, ap, ap₂}
use mathlib.Core.{List.List, List.[], List.◌∷◌, Logic.◌⊎◌, Logic.inl, Logic.inr}
use borrow.Author.Tests.{ne_eqb}
use lib.{ListN.length, Pow.pow_mono}
use Rattle.model.specs.Records.{IF, ELSE, WHILE, END, TIMES}
use Rattle.model.specs.Refusals.{Open, first, second, loop, after_else, after_end, nest}
use Rattle.reading.specs.Nesting.{waits, bits, blocks, nested}
use Rattle.reading.specs.declared.nesting.Blocks.{Blocks}
use Rattle.std.specs.Prelude.{None, Some}

-- the blocks of a depth, with their bits
abbrev pub two : ℕ → ℕ → Blocks
two d w = record { depth = d; waiting = w }

same : {d w d' w' : ℕ} → d ≡ d' → w ≡ w' → Some (two d w) ≡ Some (two d' w')
same p q = ap₂ (λ (x y : ℕ). Some (two x y)) p q

module _ (b : Blocks) where
  pub depth_is : (os : List Open) → b ≡ blocks os → b.depth ≡ length os
  depth_is os e = ap (λ (x : Blocks). x.depth) e

  pub waiting_is : (os : List Open) → b ≡ blocks os → b.waiting ≡ bits os
  waiting_is os e = ap (λ (x : Blocks). x.waiting) e

  -- ELSE

  pub else_misplaced : (os : List Open) → b ≡ blocks os → b.waiting % 2 ≡ 0 → None ≡ nested (after_else os)
  unfolding bits
  else_misplaced [] e h = refl
  else_misplaced (first ∷ os) e h = absurd (omega (arith, waiting_is (first ∷ os) e))
  else_misplaced (second ∷ os) e h = refl
  else_misplaced (loop ∷ os) e h = refl

  pub else_inside : (os : List Open) → b ≡ blocks os → b.waiting % 2 ≡ 1 → Some (two b.depth (b.waiting - 1)) ≡ nested (after_else os)
  unfolding bits
  else_inside [] e h = absurd (omega (arith, waiting_is [] e))
  else_inside (first ∷ os) e h = same (depth_is (first ∷ os) e) (omega (arith, waiting_is (first ∷ os) e))
  else_inside (second ∷ os) e h = absurd (omega (arith, waiting_is (second ∷ os) e))
  else_inside (loop ∷ os) e h = absurd (omega (arith, waiting_is (loop ∷ os) e))

  -- END

  pub end_outside : (os : List Open) → b ≡ blocks os → b.depth ≡ 0 → None ≡ nested (after_end os)
  end_outside [] e h = refl
  end_outside (o ∷ os) e h = absurd (omega (arith, depth_is (o ∷ os) e))

  pub end_early : (os : List Open) → b ≡ blocks os → b.waiting % 2 ≡ 1 → None ≡ nested (after_end os)
  unfolding bits
  end_early [] e h = refl
  end_early (first ∷ os) e h = refl
  end_early (second ∷ os) e h = absurd (omega (arith, waiting_is (second ∷ os) e))
  end_early (loop ∷ os) e h = absurd (omega (arith, waiting_is (loop ∷ os) e))

  pub end_inside : (os : List Open) → b ≡ blocks os → 0 < b.depth → b.waiting % 2 ≡ 0
      → Some (two (b.depth - 1) (b.waiting / 2)) ≡ nested (after_end os)
  unfolding bits
  end_inside [] e h k = absurd (omega (arith, depth_is [] e))
  end_inside (first ∷ os) e h k = absurd (omega (arith, waiting_is (first ∷ os) e))
  end_inside (second ∷ os) e h k = same (omega (arith, depth_is (second ∷ os) e)) (omega (arith, waiting_is (second ∷ os) e))
  end_inside (loop ∷ os) e h k = same (omega (arith, depth_is (loop ∷ os) e)) (omega (arith, waiting_is (loop ∷ os) e))

  -- BY KIND

  module _ (k : ℕ) (os : List Open) (e : b ≡ blocks os) where
    pub if_opens : k ≡ IF → Some (two (b.depth + 1) (2 * b.waiting + 1)) ≡ nested (nest k os)
    unfolding bits
    if_opens h = rw h (same (omega (arith, depth_is os e)) (omega (arith, waiting_is os e)))

    pub loop_opens : (k ≡ WHILE) ⊎ (k ≡ TIMES) → Some (two (b.depth + 1) (2 * b.waiting)) ≡ nested (nest k os)
    unfolding bits
    loop_opens (inl h) = rw h (same (omega (arith, depth_is os e)) (omega (arith, waiting_is os e)))
    loop_opens (inr h) = rw h (same (omega (arith, depth_is os e)) (omega (arith, waiting_is os e)))

    pub others_stay : (k ≡ IF → ⊥) → ((k ≡ WHILE) ⊎ (k ≡ TIMES) → ⊥) → (k ≡ ELSE → ⊥) → (k ≡ END → ⊥) → Some b ≡ nested (nest k os)
    others_stay i l o u = simp (ne_eqb k 5 i, ne_eqb k 7 (λ h. l (inl h)), ne_eqb k 9 (λ h. l (inr h)), ne_eqb k 6 o, ne_eqb k 8 u) (ap Some e)

-- AT MOST 16 DEEP

one_bit : (o : Open) → waits o ≤ 1
one_bit first = omega arith
one_bit second = omega arith
one_bit loop = omega arith

bits_below : (os : List Open) → bits os < 2 ^ length os
unfolding bits
bits_below [] = omega arith
bits_below (o ∷ os) = omega (arith, bits_below os, one_bit o, two-pow-succ (length os))

pub bits_small : (os : List Open) → length os ≤ 16 → bits os < 65536
bits_small os l = omega (arith, bits_below os, pow_mono l)
