-- The exit of a `?` that passes an error, or that there is nothing, on as it is.
use Rattle.std.proofs.Common.{◌≡◌, ◌∙◌, ap, subst, sym, Option, None, Result, Err}
use Rattle.std.specs.Result.{IsErrAnd}
use Rattle.std.proofs.lemmas.Result.{err_from_is_err_and}

module _ {A E : Type 0} {r : Result A E} {x : E} where
  pub exit_is : IsErrAnd r (λ y. y ≡ x) → r ≡ Err x
  exit_is h = let p = err_from_is_err_and r h in p.1 ∙ ap Err p.2

  -- what is shown of the error is shown of the result
  pub exits : (P : Result A E → Type 0) → IsErrAnd r (λ y. y ≡ x) → P (Err x) → P r
  exits P h p = subst P (sym (exit_is h)) p

pub exits_none : {A : Type 0} {r : Option A} (P : Option A → Type 0) → r ≡ None → P None → P r
exits_none P h p = subst P (sym h) p
