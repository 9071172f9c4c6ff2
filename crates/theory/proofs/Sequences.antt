-- One run and then another: what the steps of both leave, and the run of two blocks in a row.
use Prim.Native.Nat.{ℕ, ◌+◌}
use native.Mathlib.{Omega.arith, Nat.add-zero}
use mathlib.Core.Path.{◌≡◌, refl, ap, sym, ◌∙◌, fun_ext}
use mathlib.Core.Bool.{Bool, true, false, cond, ◌||◌}
use mathlib.Core.List.{List, [], ◌∷◌, ◌++◌, append_assoc, append-nil}
use Rattle.model.specs.declared.Settings.{Settings}
use Rattle.model.specs.Trees.{Block, nil, skip, act, branch, while, times, ◌⧺◌, size}
use Rattle.model.specs.Times.{ticks}
use Rattle.model.specs.Runs.{Step, is_overrun, nothing, duration, on_variables, variables_after, on_outputs, outputs_after, overran}
use Rattle.model.specs.Runs.{last_test, effect, Run, ◌⊳◌, single, choose, spin, rounds, run}

pub duration-++ : (xs ys : List Step) → duration (xs ++ ys) ≡ duration xs + duration ys
duration-++ [] ys = omega arith
duration-++ (e ∷ xs) ys = omega (arith, duration-++ xs ys)

pub variables-++ : (xs ys : List Step) (v : List ℕ) → variables_after (xs ++ ys) v ≡ variables_after ys (variables_after xs v)
variables-++ [] ys v = refl
variables-++ (e ∷ xs) ys v = variables-++ xs ys (on_variables e.does v)

pub outputs-++ : (f : ℕ → ℕ) (xs ys : List Step) (l : List ℕ) → outputs_after f (xs ++ ys) l ≡ outputs_after f ys (outputs_after f xs l)
outputs-++ f [] ys l = refl
outputs-++ f (e ∷ xs) ys l = outputs-++ f xs ys (on_outputs f e.does l)

pub overran-++ : (xs ys : List Step) → overran (xs ++ ys) ≡ (overran xs || overran ys)
overran-++ [] ys = refl
overran-++ (e ∷ xs) ys = rw (overran-++ xs ys) (||-assoc (is_overrun e.does) (overran xs) (overran ys))
  where
    ||-assoc : (a b c : Bool) → (a || (b || c)) ≡ ((a || b) || c)
    ||-assoc true b c = refl
    ||-assoc false b c = refl

pub ⊳-assoc : (f g h : Run) (v : List ℕ) → ((f ⊳ g) ⊳ h) v ≡ (f ⊳ (g ⊳ h)) v
⊳-assoc f g h v = go (f v) (overran (f v)) refl
  where
    go : (es : List Step) (o : Bool) → overran es ≡ o
        → (es ++ cond o [] (g (variables_after es v)))
        ++ cond (overran (es ++ cond o [] (g (variables_after es v)))) [] (h (variables_after (es ++ cond o [] (g (variables_after es v))) v))
        ≡ es ++ cond o [] ((g ⊳ h) (variables_after es v))
    go es true e = rw (append-nil es, e) (append-nil es)
    go es false e = rw (append_assoc, overran-++ es, variables-++ es, e)

pub ⊳-nil : (f : Run) (v : List ℕ) → (f ⊳ (λ w. [])) v ≡ f v
⊳-nil f v = rw (cond_same (overran (f v))) (append-nil (f v))
  where
    cond_same : (t : Bool) → cond {A = List Step} t [] [] ≡ []
    cond_same true = refl
    cond_same false = refl

-- a fact about both sides of a choice
pub either : {A : Type 0} (P : A → Type 0) (o : Bool) (x y : A) → P x → P y → P (cond o x y)
either P true x y p q = p
either P false x y p q = q

module _ (σ : Settings) (ins : List ℕ) where
  -- f, and then a block of two parts
  then-⧺ : (f : Run) (k m : ℕ) (a b : Block) (v : List ℕ)
      → k + size a ≡ m
      → ((w : List ℕ) → run σ ins (a ⧺ b) k w ≡ (run σ ins a k ⊳ run σ ins b (k + size a)) w)
      → (f ⊳ run σ ins (a ⧺ b) k) v ≡ ((f ⊳ run σ ins a k) ⊳ run σ ins b m) v
  then-⧺ f k m a b v l e =
      ap (λ (g : Run). (f ⊳ g) v) (fun_ext e) ∙ sym (⊳-assoc f (run σ ins a k) (run σ ins b (k + size a)) v)
      ∙ ap (λ (n : ℕ). ((f ⊳ run σ ins a k) ⊳ run σ ins b n) v) l

  pub run-⧺ : (a b : Block) (i : ℕ) (v : List ℕ) → run σ ins (a ⧺ b) i v ≡ (run σ ins a i ⊳ run σ ins b (i + size a)) v
  run-⧺ nil b i v = rw (add-zero i)
  run-⧺ (skip n a) b i v = then-⧺ (single n i (λ v. nothing)) (i + 1) (i + (1 + size a)) a b v (omega arith) (run-⧺ a b (i + 1))
  run-⧺ (act p a) b i v = then-⧺ (single (ticks σ p) i (effect ins p)) (i + 1) (i + (1 + size a)) a b v (omega arith) (run-⧺ a b (i + 1))
  run-⧺ (branch q x y a) b i v =
      let k = i + 3 + size x + size y in
      then-⧺ (choose i q (run σ ins x (i + 1)) (run σ ins y (i + 2 + size x))) k (i + (3 + size x + size y + size a)) a b v
      (omega arith) (run-⧺ a b k)
  run-⧺ (while q n x a) b i v =
      let k = i + 2 + size x in
      then-⧺ (spin i n q (run σ ins x (i + 1))) k (i + (2 + size x + size a)) a b v (omega arith) (run-⧺ a b k)
  run-⧺ (times q n x a) b i v =
      let k = i + 2 + size x in
      then-⧺ (rounds n (run σ ins x (i + 1)) ⊳ single 1 i (last_test q)) k (i + (2 + size x + size a)) a b v (omega arith) (run-⧺ a b k)
