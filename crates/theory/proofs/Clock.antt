-- Ticks within a window, at its end, and in a round of windows.
use Prim.Native.Nat.{ℕ, ◌+◌, ◌*◌, ◌-◌, ◌%◌, ◌/◌, ◌<◌}
use native.Mathlib.Omega.{arith}
use native.Mathlib.Nat.{div-add-mod, mul-add-mod_self_left, mod-eq_of_lt, mod-lt, mod_self, mul-le-mul_left}
use mathlib.Core.Path.{◌≡◌, refl, ap, sym, ◌∙◌}
use mathlib.Core.Bool.{Bool, true, false}
use lib.Dec.{ltb}
use borrow.Author.Tests.{ltb-true, ltb-false}

module _ (h : ℕ) (pos : 0 < h) where
  whole : (t d : ℕ) → t + d ≡ h * (t / h) + (t % h + d)
  whole t d = omega (arith, div-add-mod t h)

  pub mod_within : (t d : ℕ) → t % h + d < h → (t + d) % h ≡ t % h + d
  mod_within t d l = ap (λ (x : ℕ). x % h) (whole t d) ∙ mul-add-mod_self_left h (t / h) (t % h + d) ∙ mod-eq_of_lt l

  pub mod_over : (t d : ℕ) → t % h + d ≡ h → (t + d) % h ≡ 0
  mod_over t d e = ap (λ (x : ℕ). x % h) (whole t d) ∙ mul-add-mod_self_left h (t / h) (t % h + d) ∙ rw (e, mod_self)

  -- the ticks to the next multiple, 0 at one
  pub mod_next : (t d : ℕ) → d < h → (t + d) % h ≡ 0 → d ≡ (h - t % h) % h
  mod_next t d l e = go (ltb (t % h + d) h) refl
    where
      k : ℕ
      k = h - t % h

      go : (o : Bool) → ltb (t % h + d) h ≡ o → d ≡ k % h
      go true x =
          let m = mod_within t d (ltb-true (t % h + d) h x) in
          let z : k ≡ h = omega arith in
          let n : d ≡ 0 = omega arith in
          n ∙ sym (ap (λ (y : ℕ). y % h) z ∙ mod_self h)
      go false x =
          let p = mod-lt t pos in
          let m = mod_over t k (omega arith) in
          let w = mod_within (t + k) (d - k) (omega arith) in
          let z : t + k + (d - k) ≡ t + d = omega (arith, ltb-false (t % h + d) h x) in
          let n : d ≡ k = omega (arith, ltb-false (t % h + d) h x, ap (λ (y : ℕ). y % h) z) in
          n ∙ sym (mod-eq_of_lt (omega arith))

  -- the place in a round of k windows
  pub mod_round : (k : ℕ) → 0 < k → (t : ℕ) → t % (k * h) ≡ h * (t / h % k) + t % h
  mod_round k kpos t =
      ap (λ (x : ℕ). x % (k * h)) e ∙ mul-add-mod_self_left (k * h) (t / h / k) (h * (t / h % k) + t % h) ∙ mod-eq_of_lt l
    where
      e : t ≡ k * h * (t / h / k) + (h * (t / h % k) + t % h)
      e = omega (arith, div-add-mod t h, ap (λ (x : ℕ). h * x) (div-add-mod (t / h) k))

      l : h * (t / h % k) + t % h < k * h
      l = omega (arith, mod-lt t pos, mul-le-mul_left h (mod-lt (t / h) kpos))
