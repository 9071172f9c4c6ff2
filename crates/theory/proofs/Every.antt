-- A fact about each step, the variables before it and the steps after it: where it holds at one step, and how it comes to hold along a run.
use Prim.Native.Nat.{ℕ}
use mathlib.Core.{Path.sym, Path.subst, Bool.false, Bool.cond, Bool.◌||◌}
use mathlib.Core.List.{List, [], ◌∷◌, ◌++◌}
use Rattle.model.specs.Trees.{Test}
use Rattle.model.specs.Runs.{Effect, nothing, is_overrun, Step, step, on_variables, variables_after, overran, holds, Run, ◌⊳◌, single, choose}
use Rattle.theory.proofs.Sequences.{⊳-assoc, ⊳-nil, either}

abbrev pub Every : (Step → List ℕ → List Step → Type 0) → List Step → List ℕ → Type 0
Every P [] v = Unit {0}
Every P (e ∷ es) v = P e v es × Every P es (on_variables e.does v)

module _ (P : Step → List ℕ → List Step → Type 0) where
  pub every_at : (xs : List Step) (e : Step) (es : List Step) (v : List ℕ) → Every P (xs ++ e ∷ es) v → P e (variables_after xs v) es
  every_at [] e es v p = p.0
  every_at (x ∷ xs) e es v p = every_at xs e es (on_variables x.does v) p.1

  pub every_nil : (f : Run) (v : List ℕ) → Every P ((f ⊳ (λ w. [])) v) v → Every P (f v) v
  every_nil f v = subst (λ (es : List Step). Every P es v) (⊳-nil f v)

  -- a step, and then h and g
  pub every_single : (d i : ℕ) (w : List ℕ → Effect) (h g : Run) (v : List ℕ)
      → P (step d i (w v)) v (cond (is_overrun (w v) || false) [] ((h ⊳ g) (on_variables (w v) v)))
      → Every P ((h ⊳ g) (on_variables (w v) v)) (on_variables (w v) v)
      → Every P (((single d i w ⊳ h) ⊳ g) v) v
  every_single d i w h g v p q =
      subst (λ (es : List Step). Every P es v) (sym (⊳-assoc (single d i w) h g v))
      (p, either (λ (es : List Step). Every P es (on_variables (w v) v)) (is_overrun (w v) || false) [] _ tt q)

  -- a choice, and then h and g
  pub every_choose : (i : ℕ) (q : Test) (f f' h g : Run) (v : List ℕ)
      → ((es : List Step) → P (step 1 i nothing) v es)
      → Every P ((f ⊳ (h ⊳ g)) v) v
      → Every P ((f' ⊳ (h ⊳ g)) v) v
      → Every P (((choose i q f f' ⊳ h) ⊳ g) v) v
  every_choose i q f f' h g v p x y =
      subst (λ (es : List Step). Every P es v) (sym (⊳-assoc (choose i q f f') h g v))
      (p _, either (λ (es : List Step). Every P (es ++ cond (overran es) [] ((h ⊳ g) (variables_after es v))) v) (holds q v) _ _ x y)
