-- The steps of a run without the indices of their records.
use mathlib.Core.Path.{◌≡◌, refl, ap, sym, ◌∙◌}
use mathlib.Core.List.{List, [], ◌∷◌}
use Rattle.model.specs.Runs.{Step, step, duration}
use Rattle.theory.proofs.Views.{View, see}

abbrev pub unindexed : View
unindexed = record {
  shows = λ e. step e.lasts 0 e.does ∷ [];
  keeps_variables = λ e xs v. refl;
  keeps_outputs = λ f e xs l. refl;
  keeps_overrun = λ e xs. refl;
  any_index = λ d i j w. refl;
}

-- they last as long
pub same_duration : (xs ys : List Step) → see unindexed xs ≡ see unindexed ys → duration xs ≡ duration ys
same_duration xs ys e = sym (go xs) ∙ ap duration e ∙ go ys
  where
    go : (es : List Step) → duration (see unindexed es) ≡ duration es
    go [] = refl
    go (e ∷ es) = rw (go es)
