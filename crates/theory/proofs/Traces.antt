-- The trace of a run: its steps without those that do nothing, beat or save, and without ticks.
use Prim.Native.Nat.{ℕ}
use mathlib.Core.Path.{◌≡◌, refl}
use mathlib.Core.Bool.{Bool, true, false, cond, ◌||◌}
use mathlib.Core.List.{List, [], ◌∷◌, ◌++◌, append-nil}
use Rattle.model.specs.Runs.{Effect, nothing, assigns, outputs, beats, saves, overruns, Step, step, is_overrun}
use Rattle.model.specs.Runs.{on_variables, variables_after, on_outputs, outputs_after, overran, Run, ◌⊳◌}
use Rattle.theory.proofs.Views.{View, see, see-++, Alike}

abbrev pub seen : Effect → List Step
seen nothing = []
seen (assigns a x) = step 0 0 (assigns a x) ∷ []
seen (outputs p x) = step 0 0 (outputs p x) ∷ []
seen (beats x) = []
seen (saves m) = []
seen overruns = step 0 0 overruns ∷ []

pub seen_variables : (w : Effect) (xs : List Step) (v : List ℕ) → variables_after (seen w ++ xs) v ≡ variables_after xs (on_variables w v)
seen_variables nothing xs v = refl
seen_variables (assigns a x) xs v = refl
seen_variables (outputs p x) xs v = refl
seen_variables (beats x) xs v = refl
seen_variables (saves m) xs v = refl
seen_variables overruns xs v = refl

pub seen_outputs : (f : ℕ → ℕ) (w : Effect) (xs : List Step) (l : List ℕ) → outputs_after f (seen w ++ xs) l ≡ outputs_after f xs (on_outputs f w l)
seen_outputs f nothing xs l = refl
seen_outputs f (assigns a x) xs l = refl
seen_outputs f (outputs p x) xs l = refl
seen_outputs f (beats x) xs l = refl
seen_outputs f (saves m) xs l = refl
seen_outputs f overruns xs l = refl

pub seen_overrun : (w : Effect) (xs : List Step) → overran (seen w ++ xs) ≡ (is_overrun w || overran xs)
seen_overrun nothing xs = refl
seen_overrun (assigns a x) xs = refl
seen_overrun (outputs p x) xs = refl
seen_overrun (beats x) xs = refl
seen_overrun (saves m) xs = refl
seen_overrun overruns xs = refl

abbrev pub traced : View
traced = record {
  shows = λ e. seen e.does;
  keeps_variables = λ e xs v. seen_variables e.does xs v;
  keeps_outputs = λ f e xs l. seen_outputs f e.does xs l;
  keeps_overrun = λ e xs. seen_overrun e.does xs;
  any_index = λ d i j w. refl;
}

-- a run that leaves no trace, after another
pub record Silent (f : Run) : Type 0 where
  pub none : (v : List ℕ) → see traced (f v) ≡ []

pub silent_behind : {f g : Run} → Silent g → Alike traced (f ⊳ g) f
silent_behind {f} {g} q = record {
  at = λ v.
      let w = variables_after (f v) v in
      rw (see-++ traced (f v), none (overran (f v)) (g w) (q.none w)) (append-nil (see traced (f v)));
}
  where
    none : (o : Bool) (es : List Step) → see traced es ≡ [] → see traced (cond o [] es) ≡ []
    none true es e = refl
    none false es e = e
