-- An equalised file unrolled has no loop and no command, and its records are those of a laid file.
use Prim.Native.Nat.{ℕ, zero, suc, ◌≤◌}
use native.Mathlib.Omega.{arith}
use mathlib.Core.{Path.◌≡◌, Path.refl, Bool.false≢true}
use Rattle.model.specs.declared.Form.TheVariants.{Equalised, Laid}
use Rattle.model.specs.{Records.IF, Records.TIMES, Runs.nothing, Layout.copies, Layout.unroll}
use Rattle.model.specs.Trees.{Act, set, read, write, check, beat, save, Block, nil, skip, act, branch, while, times, ◌⧺◌}
use Rattle.model.specs.{Trees.depth, Trees.test_rec, Trees.act_rec, Refusals.between, Refusals.test_fits, Refusals.fields_fit}
use Rattle.model.specs.{Placement.command, Placement.CommandFree, Placement.LoopFree, Standing.Fit}
use Rattle.laws.proofs.Shapes.{and_left}
use Rattle.theory.proofs.Forms.{Formed, depth-⧺}

-- an act that may be laid out and is no command
record Layable (p : Act) : Type 0 where
  fits : Fit Laid (act_rec p)
  free : command p ≡ nothing

-- all three at once
abbrev Unrolled : Block → Type 0
Unrolled nil = Unit {0}
Unrolled (skip n b) = Unrolled b
Unrolled (act p b) = Layable p × Unrolled b
Unrolled (branch q a d b) = Fit Laid (test_rec IF q 0) × Unrolled a × Unrolled d × Unrolled b
Unrolled (while q n a b) = ⊥
Unrolled (times q n a b) = ⊥

unrolled-⧺ : (a b : Block) → Unrolled a → Unrolled b → Unrolled (a ⧺ b)
unrolled-⧺ nil b p r = r
unrolled-⧺ (skip n a) b p r = unrolled-⧺ a b p r
unrolled-⧺ (act x a) b p r = (p.0, unrolled-⧺ a b p.1 r)
unrolled-⧺ (branch q x y a) b p r = (p.0, p.1, p.2, unrolled-⧺ a b p.3 r)
unrolled-⧺ (while q n x a) b p r = p
unrolled-⧺ (times q n x a) b p r = p

unrolled_copies : (n : ℕ) (b : Block) → Unrolled b → Unrolled (copies n b)
unrolled_copies zero b p = tt
unrolled_copies (suc n) b p = unrolled-⧺ b (copies n b) p (unrolled_copies n b p)

-- a CHECK, BEAT or SAVE is no record of an equalised file
layable : (p : Act) → Fit Equalised (act_rec p) → Layable p
layable (set o t l x) p = record { fits = record { kind = refl; fields = p.fields }; free = refl }
layable (read a x) p = record { fits = record { kind = refl; fields = p.fields }; free = refl }
layable (write a x) p = record { fits = record { kind = refl; fields = p.fields }; free = refl }
layable (check q) p = absurd (false≢true p.kind)
layable (beat x) p = absurd (false≢true p.kind)
layable (save m) p = absurd (false≢true p.kind)

unrolled : (b : Block) → Formed Equalised b → Unrolled (unroll b)
unfolding fields_fit
unrolled nil p = tt
unrolled (skip n b) p = unrolled b p
unrolled (act r b) p = (layable r p.0, unrolled b p.1)
unrolled (branch q a d b) p = (record { kind = refl; fields = p.0.fields }, unrolled a p.1, unrolled d p.2, unrolled b p.3)
unrolled (while q n a b) p = absurd (false≢true p.0.kind)
unrolled (times q n a b) p =
    let t = and_left (test_fits (test_rec TIMES q n)) (between 1 65535 n) p.0.fields in
    unrolled-⧺ (copies n (unroll a)) (act (check q) (unroll b)) (unrolled_copies n (unroll a) (unrolled a p.1))
    (record { fits = record { kind = refl; fields = rw t }; free = refl }, unrolled b p.2)

-- each of the three

loop_free : (b : Block) → Unrolled b → LoopFree b
loop_free nil p = tt
loop_free (skip n b) p = loop_free b p
loop_free (act r b) p = loop_free b p.1
loop_free (branch q a d b) p = (loop_free a p.1, loop_free d p.2, loop_free b p.3)
loop_free (while q n a b) p = p
loop_free (times q n a b) p = p

command_free : (b : Block) → Unrolled b → CommandFree b
command_free nil p = tt
command_free (skip n b) p = command_free b p
command_free (act r b) p = (p.0.free, command_free b p.1)
command_free (branch q a d b) p = (command_free a p.1, command_free d p.2, command_free b p.3)
command_free (while q n a b) p = absurd p
command_free (times q n a b) p = absurd p

formed : (b : Block) → Unrolled b → Formed Laid b
formed nil p = tt
formed (skip n b) p = formed b p
formed (act r b) p = (p.0.fits, formed b p.1)
formed (branch q a d b) p = (p.0, formed a p.1, formed d p.2, formed b p.3)
formed (while q n a b) p = absurd p
formed (times q n a b) p = absurd p

module _ (b : Block) (p : Formed Equalised b) where
  pub unrolled_loop_free : LoopFree (unroll b)
  unrolled_loop_free = loop_free (unroll b) (unrolled b p)

  pub unrolled_command_free : CommandFree (unroll b)
  unrolled_command_free = command_free (unroll b) (unrolled b p)

  -- nor has any number of its rounds
  pub rounds_loop_free : (n : ℕ) → LoopFree (copies n (unroll b))
  rounds_loop_free n = loop_free (copies n (unroll b)) (unrolled_copies n (unroll b) (unrolled b p))

  pub rounds_command_free : (n : ℕ) → CommandFree (copies n (unroll b))
  rounds_command_free n = command_free (copies n (unroll b)) (unrolled_copies n (unroll b) (unrolled b p))

  pub unrolled_formed : Formed Laid (unroll b)
  unrolled_formed = formed (unroll b) (unrolled b p)

-- DEPTH

depth_copies : (n : ℕ) (b : Block) → depth (copies n b) ≤ depth b
depth_copies zero b = omega arith
depth_copies (suc n) b = omega (arith, depth-⧺ b (copies n b), depth_copies n b)

pub depth_unroll : (b : Block) → depth (unroll b) ≤ depth b
depth_unroll nil = omega arith
depth_unroll (skip n b) = depth_unroll b
depth_unroll (act p b) = depth_unroll b
depth_unroll (branch q a d b) = omega (arith, depth_unroll a, depth_unroll d, depth_unroll b)
depth_unroll (while q n a b) = omega (arith, depth_unroll a, depth_unroll b)
depth_unroll (times q n a b) =
    omega (arith, depth-⧺ (copies n (unroll a)) (act (check q) (unroll b)), depth_copies n (unroll a), depth_unroll a, depth_unroll b)
