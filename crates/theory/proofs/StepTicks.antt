-- A step of a run stands at a record of the block, and lasts and does what that record says.
use Prim.Native.Nat.{ℕ, zero, suc, ◌+◌}
use mathlib.Core.{Path.◌≡◌, Path.refl, Path.subst, Bool.cond, Logic.inl, Logic.inr}
use mathlib.Core.List.{List, [], ◌∷◌, ◌++◌}
use Rattle.model.specs.declared.Settings.{Settings}
use Rattle.model.specs.Trees.{Test, Block, nil, skip, act, branch, while, times, size}
use Rattle.model.specs.Times.{ticks}
use Rattle.model.specs.Runs.{Effect, nothing, Step, step, on_variables, variables_after, overran, holds, last_test, effect, Run, ◌⊳◌, single, choose}
use Rattle.model.specs.Runs.{spin, rounds, run}
use Rattle.theory.specs.Multiplying.{StepOf}
use Rattle.theory.proofs.{Sequences.either, Every.Every, Every.every_at}

-- a fact about the variables before a step and the step, of each step
abbrev All : (List ℕ → Step → Type 0) → List Step → List ℕ → Type 0
All P = Every (λ e v es. P v e)

all-++ : (P : List ℕ → Step → Type 0) (xs ys : List Step) (v : List ℕ) → All P xs v → All P ys (variables_after xs v) → All P (xs ++ ys) v
all-++ P [] ys v x y = y
all-++ P (e ∷ xs) ys v x y = (x.0, all-++ P xs ys (on_variables e.does v) x.1 y)

all_map : {P Q : List ℕ → Step → Type 0} → ((v : List ℕ) (e : Step) → P v e → Q v e) → (es : List Step) (v : List ℕ) → All P es v → All Q es v
all_map f [] v x = tt
all_map f (e ∷ es) v x = (f v e x.0, all_map f es (on_variables e.does v) x.1)

-- from any variables on
record Always (P : List ℕ → Step → Type 0) (f : Run) : Type 0 where
  at : (v : List ℕ) → All P (f v) v

module _ (P : List ℕ → Step → Type 0) where
  always-⊳ : {f g : Run} → Always P f → Always P g → Always P (f ⊳ g)
  always-⊳ {f} {g} x y = record {
    at = λ v.
        let w = variables_after (f v) v in
        all-++ P (f v) (cond (overran (f v)) [] (g w)) v (x.at v) (either (λ (es : List Step). All P es w) (overran (f v)) [] (g w) tt (y.at w));
  }

  always_single : (d i : ℕ) (w : List ℕ → Effect) → ((v : List ℕ) → P v (step d i (w v))) → Always P (single d i w)
  always_single d i w p = record { at = λ v. (p v, tt) }

  always_choose : (i : ℕ) (q : Test) {f g : Run} → ((v : List ℕ) → P v (step 1 i nothing)) → Always P f → Always P g → Always P (choose i q f g)
  always_choose i q {f} {g} p x y = record { at = λ v. (p v, either (λ (es : List Step). All P es v) (holds q v) (f v) (g v) (x.at v) (y.at v)) }

  always_nil : Always P (λ v. [])
  always_nil = record { at = λ v. tt }

  always_spin : (i n : ℕ) (q : Test) {f : Run} → ((v : List ℕ) → P v (step 1 i nothing)) → ((v : List ℕ) → P v (step 1 i (last_test q v))) → Always P f
      → Always P (spin i n q f)
  always_spin i zero q p l x = record { at = λ v. (l v, tt) }
  always_spin i (suc n) q p l x = record { at = λ v. (always_choose i q p (always-⊳ x (always_spin i n q p l x)) always_nil).at v }

  always_rounds : (n : ℕ) {f : Run} → Always P f → Always P (rounds n f)
  always_rounds zero x = record { at = λ v. tt }
  always_rounds (suc n) x = record { at = λ v. (always-⊳ x (always_rounds n x)).at v }

always_map : {P Q : List ℕ → Step → Type 0} {f : Run} → ((v : List ℕ) (e : Step) → P v e → Q v e) → Always P f → Always Q f
always_map {P} {Q} {f} h x = record { at = λ v. all_map {P = P} {Q = Q} h (f v) v (x.at v) }

module _ (σ : Settings) (ins : List ℕ) where
  steps_of : (b : Block) (i : ℕ) → Always (StepOf σ ins b i) (run σ ins b i)
  steps_of nil i = record { at = λ v. tt }
  steps_of (skip n b) i =
      always-⊳ (StepOf σ ins (skip n b) i) (always_single _ n i (λ v. nothing) (λ v. inl (refl, refl, refl)))
      (always_map (λ v e h. inr h) (steps_of b (i + 1)))
  steps_of (act p b) i =
      always-⊳ (StepOf σ ins (act p b) i) (always_single _ (ticks σ p) i (effect ins p) (λ v. inl (refl, refl, refl)))
      (always_map (λ v e h. inr h) (steps_of b (i + 1)))
  steps_of (branch q a d b) i =
      always-⊳ (StepOf σ ins (branch q a d b) i)
      (always_choose _ i q (λ v. inl (refl, refl, refl)) (always_map (λ v e h. inr (inl h)) (steps_of a (i + 1)))
      (always_map (λ v e h. inr (inr (inl h))) (steps_of d (i + 2 + size a))))
      (always_map (λ v e h. inr (inr (inr h))) (steps_of b (i + 3 + size a + size d)))
  steps_of (while q n a b) i =
      always-⊳ (StepOf σ ins (while q n a b) i)
      (always_spin _ i n q (λ v. inl (refl, refl, refl)) (λ v. inr (inl (refl, refl, refl)))
      (always_map (λ v e h. inr (inr (inl h))) (steps_of a (i + 1))))
      (always_map (λ v e h. inr (inr (inr h))) (steps_of b (i + 2 + size a)))
  steps_of (times q n a b) i =
      always-⊳ (StepOf σ ins (times q n a b) i)
      (always-⊳ _ (always_rounds _ n (always_map (λ v e h. inr (inl h)) (steps_of a (i + 1))))
      (always_single _ 1 i (last_test q) (λ v. inl (refl, refl, refl))))
      (always_map (λ v e h. inr (inr h)) (steps_of b (i + 2 + size a)))

pub step_lasts : (σ : Settings) (ins v : List ℕ) (b : Block) (i : ℕ) (pre : List Step) (e : Step) (post : List Step)
    → run σ ins b i v ≡ pre ++ e ∷ post → StepOf σ ins b i (variables_after pre v) e
step_lasts σ ins v b i pre e post h =
    every_at (λ y w ys. StepOf σ ins b i w y) pre e post v (subst (λ (es : List Step). All (StepOf σ ins b i) es v) h ((steps_of σ ins b i).at v))
