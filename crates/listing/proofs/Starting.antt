-- The starts of a block's records: how many there are, those of its first statement and those after it.
use Prim.Native.Nat.{ℕ, suc, ◌+◌, max}
use native.Mathlib.Omega.{arith}
use mathlib.Core.Path.{◌≡◌, refl, ap, ◌∙◌}
use mathlib.Core.{Bool.false≢true, List.◌∷◌, List.◌++◌, List.append_assoc}
use lib.ListN.{length, length-append}
use Rattle.model.specs.declared.Form.TheVariants.{Laid}
use Rattle.model.specs.declared.Settings.{Settings}
use Rattle.model.specs.Trees.{Block, nil, skip, act, branch, while, times, size}
use Rattle.model.specs.{Times.time, Listing.start_ticks}
use Rattle.model.specs.Standing.{OfForm}
use Rattle.reading.specs.Ranges.{first_size, after_first}
use Rattle.timing.specs.Blocks.{first_time}
use Rattle.listing.specs.Starts.{first_starts}

module _ (σ : Settings) where
  -- one for each record
  pub starts_length : (b : Block) (t : ℕ) → OfForm Laid b → length (start_ticks σ b t) ≡ size b
  starts_length nil t p = refl
  starts_length (skip n b) t p = ap suc (starts_length b _ p.1) ∙ omega arith
  starts_length (act a b) t p = ap suc (starts_length b _ p.1) ∙ omega arith
  starts_length (branch q a d b) t p =
      let e = t + 1 + max (time σ a) (time σ d) in
      simp length-append (omega (arith, starts_length a (t + 1) p.1, starts_length d (t + 1) p.2, starts_length b e p.3))
  starts_length (while q n a b) t p = absurd (false≢true p.0.kind)
  starts_length (times q n a b) t p = absurd (false≢true p.0.kind)

  pub first_length : (b : Block) (t : ℕ) → OfForm Laid b → length (first_starts σ b t) ≡ first_size b
  first_length nil t p = refl
  first_length (skip n b) t p = refl
  first_length (act a b) t p = refl
  first_length (branch q a d b) t p = simp length-append (omega (arith, starts_length a (t + 1) p.1, starts_length d (t + 1) p.2))
  first_length (while q n a b) t p = absurd (false≢true p.0.kind)
  first_length (times q n a b) t p = absurd (false≢true p.0.kind)

  -- the first statement, and what follows it
  pub starts_first : (b : Block) (t : ℕ) → OfForm Laid b → start_ticks σ b t ≡ first_starts σ b t ++ start_ticks σ (after_first b) (t + first_time σ b)
  starts_first nil t p = refl
  starts_first (skip n b) t p = refl
  starts_first (act a b) t p = refl
  starts_first (branch q a d b) t p =
      let e : t + 1 + max (time σ a) (time σ d) ≡ t + (1 + max (time σ a) (time σ d)) = omega arith in
      let m = t + 1 + max (time σ a) (time σ d) in
      simp append_assoc (ap (λ (u : ℕ). t ∷ (start_ticks σ a (t + 1) ++ (t + 1) ∷ (start_ticks σ d (t + 1) ++ m ∷ start_ticks σ b u))) e)
  starts_first (while q n a b) t p = absurd (false≢true p.0.kind)
  starts_first (times q n a b) t p = absurd (false≢true p.0.kind)
