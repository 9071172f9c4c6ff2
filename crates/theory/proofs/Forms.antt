-- Equalising a task writes records of an equalised file, and nests at most twice as deep.
use Prim.Native.Nat.{ℕ, zero, suc, ◌+◌, ◌*◌, ◌≤◌, max}
use native.Mathlib.{Nat.mul-le-mul_right, Omega.arith}
use mathlib.Core.{Path.◌≡◌, Path.refl, Bool.true, Bool.◌&&◌}
use borrow.Author.Tests.{le-leb}
use Rattle.model.specs.declared.{Settings.Settings, Form.Form}
use Rattle.model.specs.declared.Form.TheVariants.{Task, Equalised, Laid}
use Rattle.model.specs.Records.{SKIP, IF, WHILE, TIMES}
use Rattle.model.specs.Trees.{Test, Act, set, read, write, check, beat, save, Block, nil, skip, act, branch, while, times, ◌⧺◌}
use Rattle.model.specs.Trees.{depth, test_rec, act_rec}
use Rattle.model.specs.{Times.time, Standing.Fit, Standing.OfForm}
use Rattle.model.specs.Equalising.{pad, F, waiting, merge, equalise}
use Rattle.model.specs.Refusals.{between, kind_fits, test_fits, fields_fit}
use Rattle.laws.proofs.Shapes.{and_left, and_right, within}
use Rattle.theory.proofs.Times.{time_f}

-- RECORDS

-- OfForm without a condition on SKIPs
abbrev pub Formed : Form → Block → Type 0
Formed f nil = Unit {0}
Formed f (skip n b) = Formed f b
Formed f (act p b) = Fit f (act_rec p) × Formed f b
Formed f (branch q a d b) = Fit f (test_rec IF q 0) × Formed f a × Formed f d × Formed f b
Formed f (while q n a b) = Fit f (test_rec WHILE q n) × Formed f a × Formed f b
Formed f (times q n a b) = Fit f (test_rec TIMES q n) × Formed f a × Formed f b

pub formed : (f : Form) (b : Block) → OfForm f b → Formed f b
formed f nil p = tt
formed f (skip n b) p = formed f b p.1
formed f (act a b) p = (p.0, formed f b p.1)
formed f (branch q a d b) p = (p.0, formed f a p.1, formed f d p.2, formed f b p.3)
formed f (while q n a b) p = (p.0, formed f a p.1, formed f b p.2)
formed f (times q n a b) p = (p.0, formed f a p.1, formed f b p.2)

pub formed-⧺ : (f : Form) (a b : Block) → Formed f a → Formed f b → Formed f (a ⧺ b)
formed-⧺ f nil b p r = r
formed-⧺ f (skip n a) b p r = formed-⧺ f a b p r
formed-⧺ f (act x a) b p r = (p.0, formed-⧺ f a b p.1 r)
formed-⧺ f (branch q x y a) b p r = (p.0, p.1, p.2, formed-⧺ f a b p.3 r)
formed-⧺ f (while q n x a) b p r = (p.0, p.1, formed-⧺ f a b p.2 r)
formed-⧺ f (times q n x a) b p r = (p.0, p.1, formed-⧺ f a b p.2 r)

-- MERGING

skip_kind : (f : Form) → kind_fits f SKIP ≡ true
skip_kind Task = refl
skip_kind Equalised = refl
skip_kind Laid = refl

-- a body takes no longer than its loop's rounds
one_round : (q : Test) (n t : ℕ) → (test_fits (test_rec WHILE q n) && between 1 65535 n) ≡ true → t ≤ n * t
one_round q n t h = omega (arith, mul-le-mul_right t (within 1 65535 n (and_right (test_fits (test_rec WHILE q n)) (between 1 65535 n) h)).0)

module _ (f : Form) where
  waiting_of_form : (n : ℕ) (b : Block) → n ≤ 1000000 → OfForm f b → OfForm f (waiting n b)
  unfolding fields_fit
  waiting_of_form zero b l p = p
  waiting_of_form (suc n) b l p = (record { kind = skip_kind f; fields = rw (le-leb 1 (suc n) (omega arith), le-leb (suc n) 1000000 l) }, p)

  -- with n ticks of SKIP before it
  merged : (σ : Settings) (b : Block) (n : ℕ) → Formed f b → n + time σ b ≤ 1000000 → OfForm f (merge n b)
  unfolding fields_fit
  merged σ nil n p l = waiting_of_form n nil (omega arith) tt
  merged σ (skip m b) n p l = merged σ b (n + m) p (omega arith)
  merged σ (act a b) n p l = waiting_of_form n (act a (merge 0 b)) (omega arith) (p.0, merged σ b 0 p.1 (omega arith))
  merged σ (branch q a d b) n p l =
      waiting_of_form n (branch q (merge 0 a) (merge 0 d) (merge 0 b)) (omega arith)
      (p.0, merged σ a 0 p.1 (omega arith), merged σ d 0 p.2 (omega arith), merged σ b 0 p.3 (omega arith))
  merged σ (while q m a b) n p l =
      let r = one_round q m (time σ a + 1) p.0.fields in
      waiting_of_form n (while q m (merge 0 a) (merge 0 b)) (omega arith)
      (p.0, merged σ a 0 p.1 (omega arith), merged σ b 0 p.2 (omega arith))
  merged σ (times q m a b) n p l =
      let r = one_round q m (time σ a) p.0.fields in
      waiting_of_form n (times q m (merge 0 a) (merge 0 b)) (omega arith)
      (p.0, merged σ a 0 p.1 (omega arith), merged σ b 0 p.2 (omega arith))

-- merged, and within a time that a SKIP may have, it is of the form
pub merged_of_form : (f : Form) (σ : Settings) (b : Block) → Formed f b → time σ b ≤ 1000000 → OfForm f (merge 0 b)
merged_of_form f σ b p l = merged f σ b 0 p (omega arith)

-- EQUALISING

-- a CHECK, BEAT or SAVE is a record of neither
act_fits : (p : Act) → Fit Task (act_rec p) → Fit Equalised (act_rec p)
act_fits (set o t l x) p = record { kind = refl; fields = p.fields }
act_fits (read a x) p = record { kind = refl; fields = p.fields }
act_fits (write a x) p = record { kind = refl; fields = p.fields }
act_fits (check q) p = record { kind = p.kind; fields = p.fields }
act_fits (beat x) p = record { kind = p.kind; fields = p.fields }
act_fits (save m) p = record { kind = p.kind; fields = p.fields }

formed_f : (σ : Settings) (b : Block) → Formed Task b → Formed Equalised (F σ b)
unfolding fields_fit
formed_f σ nil p = tt
formed_f σ (skip n b) p = formed_f σ b p
formed_f σ (act a b) p = (act_fits a p.0, formed_f σ b p.1)
formed_f σ (branch q a d b) p = (
  record { kind = refl; fields = p.0.fields },
  formed-⧺ Equalised (F σ a) (pad _) (formed_f σ a p.1) tt,
  formed-⧺ Equalised (F σ d) (pad _) (formed_f σ d p.2) tt,
  formed_f σ b p.3,
)
formed_f σ (while q n a b) p =
    let t = and_left (test_fits (test_rec WHILE q n)) (between 1 65535 n) p.0.fields in
    (record { kind = refl; fields = p.0.fields }, (record { kind = refl; fields = rw t }, formed_f σ a p.1, tt, tt), formed_f σ b p.2)
formed_f σ (times q n a b) p = (record { kind = refl; fields = p.0.fields }, formed_f σ a p.1, formed_f σ b p.2)

pub equalised_of_form : (σ : Settings) (b : Block) → OfForm Task b → time σ b ≤ 1000000 → OfForm Equalised (equalise σ b)
unfolding equalise
equalised_of_form σ b p l = merged_of_form Equalised σ (F σ b) (formed_f σ b (formed Task b p)) (omega (arith, time_f σ b))

-- DEPTH

pub depth-⧺ : (a b : Block) → depth (a ⧺ b) ≡ max (depth a) (depth b)
depth-⧺ nil b = omega arith
depth-⧺ (skip n a) b = depth-⧺ a b
depth-⧺ (act p a) b = depth-⧺ a b
depth-⧺ (branch q x y a) b = omega (arith, depth-⧺ a b)
depth-⧺ (while q n x a) b = omega (arith, depth-⧺ a b)
depth-⧺ (times q n x a) b = omega (arith, depth-⧺ a b)

depth_waiting : (n : ℕ) (b : Block) → depth (waiting n b) ≡ depth b
depth_waiting zero b = refl
depth_waiting (suc n) b = refl

pub depth_merge : (b : Block) (n : ℕ) → depth (merge n b) ≡ depth b
depth_merge nil n = depth_waiting n nil
depth_merge (skip m b) n = depth_merge b (n + m)
depth_merge (act p b) n = rw (depth_waiting n) (depth_merge b 0)
depth_merge (branch q a d b) n = rw (depth_waiting n, depth_merge a 0, depth_merge d 0, depth_merge b 0)
depth_merge (while q m a b) n = rw (depth_waiting n, depth_merge a 0, depth_merge b 0)
depth_merge (times q m a b) n = rw (depth_waiting n, depth_merge a 0, depth_merge b 0)

depth_f : (σ : Settings) (b : Block) → depth (F σ b) ≤ 2 * depth b
depth_f σ nil = omega arith
depth_f σ (skip n b) = depth_f σ b
depth_f σ (act p b) = depth_f σ b
depth_f σ (branch q a d b) = rw (depth-⧺ (F σ a), depth-⧺ (F σ d)) (omega (arith, depth_f σ a, depth_f σ d, depth_f σ b))
depth_f σ (while q n a b) = omega (arith, depth_f σ a, depth_f σ b)
depth_f σ (times q n a b) = omega (arith, depth_f σ a, depth_f σ b)

pub depth_equalise : (σ : Settings) (b : Block) → depth (equalise σ b) ≤ 2 * depth b
unfolding equalise
depth_equalise σ b = rw (depth_merge (F σ b) 0) (depth_f σ b)
