-- Runs that a view of their steps does not tell apart. A view may leave out or change steps, but keeps what they do to variables and
-- outputs and whether they overran, so that runs that look alike end alike.
use Prim.Native.Nat.{ℕ, zero, suc, ◌+◌}
use mathlib.Core.Path.{◌≡◌, refl, ap, ap₂, sym, ◌∙◌}
use mathlib.Core.Bool.{Bool, true, false, cond, ◌||◌}
use mathlib.Core.List.{List, [], ◌∷◌, ◌++◌, append_assoc}
use Rattle.model.specs.declared.Settings.{Settings}
use Rattle.model.specs.Trees.{Test, Block, nil, skip, act, branch, while, times, size}
use Rattle.model.specs.Times.{ticks}
use Rattle.model.specs.Runs.{Effect, nothing, Step, step, is_overrun, on_variables, variables_after, on_outputs, outputs_after, overran}
use Rattle.model.specs.Runs.{holds, last_test, effect, Run, ◌⊳◌, single, choose, spin, rounds, run}

pub record View : Type 0 where
  pub shows : Step → List Step
  pub keeps_variables : (e : Step) (xs : List Step) (v : List ℕ) → variables_after (shows e ++ xs) v ≡ variables_after xs (on_variables e.does v)
  pub keeps_outputs : (f : ℕ → ℕ) (e : Step) (xs : List Step) (l : List ℕ) → outputs_after f (shows e ++ xs) l ≡ outputs_after f xs (on_outputs f e.does l)
  pub keeps_overrun : (e : Step) (xs : List Step) → overran (shows e ++ xs) ≡ (is_overrun e.does || overran xs)
  pub any_index : (d i j : ℕ) (w : Effect) → shows (step d i w) ≡ shows (step d j w)

abbrev pub see : View → List Step → List Step
see view [] = []
see view (e ∷ es) = view.shows e ++ see view es

-- STEPS

module _ (view : View) where
  pub see-++ : (xs ys : List Step) → see view (xs ++ ys) ≡ see view xs ++ see view ys
  see-++ [] ys = refl
  see-++ (e ∷ xs) ys = rw (see-++ xs ys) (sym (append_assoc (view.shows e) (see view xs) (see view ys)))

  see_variables : (es : List Step) (v : List ℕ) → variables_after (see view es) v ≡ variables_after es v
  see_variables [] v = refl
  see_variables (e ∷ es) v = view.keeps_variables e (see view es) v ∙ see_variables es (on_variables e.does v)

  see_outputs : (f : ℕ → ℕ) (es : List Step) (l : List ℕ) → outputs_after f (see view es) l ≡ outputs_after f es l
  see_outputs f [] l = refl
  see_outputs f (e ∷ es) l = view.keeps_outputs f e (see view es) l ∙ see_outputs f es (on_outputs f e.does l)

  see_overran : (es : List Step) → overran (see view es) ≡ overran es
  see_overran [] = refl
  see_overran (e ∷ es) = view.keeps_overrun e (see view es) ∙ ap (λ (o : Bool). is_overrun e.does || o) (see_overran es)

  module _ (es fs : List Step) (e : see view es ≡ see view fs) where
    pub same_variables : (v : List ℕ) → variables_after es v ≡ variables_after fs v
    same_variables v = sym (see_variables es v) ∙ ap (λ (x : List Step). variables_after x v) e ∙ see_variables fs v

    pub same_outputs : (f : ℕ → ℕ) (l : List ℕ) → outputs_after f es l ≡ outputs_after f fs l
    same_outputs f l = sym (see_outputs f es l) ∙ ap (λ (x : List Step). outputs_after f x l) e ∙ see_outputs f fs l

    pub same_overran : overran es ≡ overran fs
    same_overran = sym (see_overran es) ∙ ap overran e ∙ see_overran fs

  see_cond : (o : Bool) (es es' fs fs' : List Step) → see view es ≡ see view es' → see view fs ≡ see view fs' → see view (cond o es fs) ≡ see view (cond o es' fs')
  see_cond true es es' fs fs' p q = p
  see_cond false es es' fs fs' p q = q

-- RUNS

pub record Alike (view : View) (f g : Run) : Type 0 where
  pub at : (v : List ℕ) → see view (f v) ≡ see view (g v)

module _ {view : View} where
  pub alike_refl : {f : Run} → Alike view f f
  alike_refl = record { at = λ v. refl }

  pub alike_sym : {f g : Run} → Alike view f g → Alike view g f
  alike_sym p = record { at = λ v. sym (p.at v) }

  pub alike_trans : {f g h : Run} → Alike view f g → Alike view g h → Alike view f h
  alike_trans p q = record { at = λ v. p.at v ∙ q.at v }

  pub alike_eq : {f g : Run} → ((v : List ℕ) → f v ≡ g v) → Alike view f g
  alike_eq e = record { at = λ v. ap (see view) (e v) }

  pub alike-⊳ : {f f' g g' : Run} → Alike view f f' → Alike view g g' → Alike view (f ⊳ g) (f' ⊳ g')
  alike-⊳ {f} {f'} {g} {g'} p q = record {
    at = λ v.
        let e = p.at v in
        rw (see-++ view (f v), see-++ view (f' v), e, same_overran view (f v) (f' v) e, same_variables view (f v) (f' v) e v)
        (ap (λ (x : List Step). see view (f' v) ++ x) (see_cond view (overran (f' v)) [] [] _ _ refl (q.at (variables_after (f' v) v))));
  }

  pub alike_single : (d i j : ℕ) (w : List ℕ → Effect) → Alike view (single d i w) (single d j w)
  alike_single d i j w = record { at = λ v. ap (λ (x : List Step). x ++ []) (view.any_index d i j (w v)) }

  pub alike_choose : (q : Test) (i j : ℕ) {f f' g g' : Run} → Alike view f f' → Alike view g g' → Alike view (choose i q f g) (choose j q f' g')
  alike_choose q i j p r = record { at = λ v. ap₂ (λ (x y : List Step). x ++ y) (view.any_index 1 i j nothing) (see_cond view (holds q v) _ _ _ _ (p.at v) (r.at v)) }

  pub alike_rounds : (n : ℕ) {f g : Run} → Alike view f g → Alike view (rounds n f) (rounds n g)
  alike_rounds zero p = alike_refl
  alike_rounds (suc n) p = alike-⊳ p (alike_rounds n p)

  pub alike_spin : (n i j : ℕ) (q : Test) {f g : Run} → Alike view f g → Alike view (spin i n q f) (spin j n q g)
  alike_spin zero i j q p = alike_single 1 i j (last_test q)
  alike_spin (suc n) i j q p = alike_choose q i j (alike-⊳ p (alike_spin n i j q p)) alike_refl

  -- no view tells the indices of a block's records
  pub alike_move : (σ : Settings) (ins : List ℕ) (b : Block) (i j : ℕ) → Alike view (run σ ins b i) (run σ ins b j)
  alike_move σ ins nil i j = alike_refl
  alike_move σ ins (skip n b) i j = alike-⊳ (alike_single n i j (λ v. nothing)) (alike_move σ ins b (i + 1) (j + 1))
  alike_move σ ins (act p b) i j = alike-⊳ (alike_single (ticks σ p) i j (effect ins p)) (alike_move σ ins b (i + 1) (j + 1))
  alike_move σ ins (branch q a d b) i j =
      alike-⊳ (alike_choose q i j (alike_move σ ins a (i + 1) (j + 1)) (alike_move σ ins d _ (j + 2 + size a))) (alike_move σ ins b _ (j + 3 + size a + size d))
  alike_move σ ins (while q n a b) i j = alike-⊳ (alike_spin n i j q (alike_move σ ins a (i + 1) (j + 1))) (alike_move σ ins b _ (j + 2 + size a))
  alike_move σ ins (times q n a b) i j =
      alike-⊳ (alike-⊳ (alike_rounds n (alike_move σ ins a (i + 1) (j + 1))) (alike_single 1 i j (last_test q))) (alike_move σ ins b _ (j + 2 + size a))
