-- Laws of a block that fills a range: its first statement, what follows it, and the tree of a sound file.
use Prim.Native.Nat.{ℕ, ◌+◌, ◌/◌, ◌≤◌, ◌<◌}
use native.Mathlib.Omega.{arith}
use mathlib.Core.{Path.◌≡◌, Path.refl, Path.subst, List.List}
use lib.ListN.{length}
use Rattle.model.specs.declared.Form.{Form}
use Rattle.model.specs.Trees.{Block, nil, skip, act, branch, while, times, size, depth}
use Rattle.model.specs.Standing.{At, OfForm}
use Rattle.laws.proofs.{Sound.Sound}
use Rattle.reading.specs.Ranges.{Fills, first_size, after_first}
use Rattle.reading.proofs.Scanning.{deepest}

move : (s : List ℕ) (i j : ℕ) (b : Block) → i ≡ j → At s i b → At s j b
move s i j b e at = subst (λ (k : ℕ). At s k b) e at

-- the records of a block are those of its first statement and of what follows it
pub size_first : (b : Block) → size b ≡ first_size b + size (after_first b)
size_first nil = refl
size_first (skip n b) = refl
size_first (act p b) = refl
size_first (branch q a e b) = refl
size_first (while q n a b) = refl
size_first (times q n a b) = refl

module _ (f : Form) (s : List ℕ) (i to d : ℕ) where
  -- what follows the first statement fills what is left
  pub fills_after : (b : Block) → i < to → Fills f s i to d b → Fills f s (i + first_size b) to d (after_first b)
  fills_after b l F = record { stands = stands b F; ends = omega (arith, l, F.ends, size_first b); shallow = omega (arith, F.shallow, depths b); of_form = of_form b F }
    where
      depths : (b : Block) → depth (after_first b) ≤ depth b
      depths nil = omega arith
      depths (skip n b) = omega arith
      depths (act p b) = omega arith
      depths (branch q a e b) = omega arith
      depths (while q n a b) = omega arith
      depths (times q n a b) = omega arith

      stands : (b : Block) → Fills f s i to d b → At s (i + first_size b) (after_first b)
      stands nil F = tt
      stands (skip n b) F = F.stands.1
      stands (act p b) F = F.stands.1
      stands (branch q a e b) F = move s (i + 3 + size a + size e) (i + (3 + size a + size e)) b (omega arith) F.stands.3
      stands (while q n a b) F = move s (i + 2 + size a) (i + (2 + size a)) b (omega arith) F.stands.2
      stands (times q n a b) F = move s (i + 2 + size a) (i + (2 + size a)) b (omega arith) F.stands.2

      of_form : (b : Block) → Fills f s i to d b → OfForm f (after_first b)
      of_form nil F = tt
      of_form (skip n b) F = F.of_form.1
      of_form (act p b) F = F.of_form.1
      of_form (branch q a e b) F = F.of_form.3
      of_form (while q n a b) F = F.of_form.2
      of_form (times q n a b) F = F.of_form.2

-- nothing but the empty block fills an empty range
pub fills_none : {f : Form} {s : List ℕ} {i to d : ℕ} (b : Block) → Fills f s i to d b → to ≤ i → b ≡ nil
fills_none nil F l = refl
fills_none (skip n b) F l = absurd (omega (arith, F.ends))
fills_none (act p b) F l = absurd (omega (arith, F.ends))
fills_none (branch q a e b) F l = absurd (omega (arith, F.ends))
fills_none (while q n a b) F l = absurd (omega (arith, F.ends))
fills_none (times q n a b) F l = absurd (omega (arith, F.ends))

-- a statement has at least one record
pub first_some : {f : Form} {s : List ℕ} {i to d : ℕ} (b : Block) → Fills f s i to d b → i < to → 1 ≤ first_size b
first_some nil F l = absurd (omega (arith, F.ends))
first_some (skip n b) F l = omega arith
first_some (act p b) F l = omega arith
first_some (branch q a e b) F l = omega arith
first_some (while q n a b) F l = omega arith
first_some (times q n a b) F l = omega arith

-- the tree of a sound file fills it
pub fills_file : (f : Form) (s : List ℕ) (b : Block) → Sound f s b → Fills f s 0 (length s / 12) 16 b
fills_file f s b S = record { stands = S.stands; ends = omega (arith, S.whole_records); shallow = omega (arith, S.shallow, deepest f); of_form = S.of_form }
