-- What equalising a task that was read answers and leaves, with settings that were read.
use Rattle.std.specs.Prelude.{ℕ, ◌≡◌, List, length, Result}
use Rattle.model.specs.declared.Settings.{Settings}
use Rattle.model.specs.declared.Equalised.{Equalised}
use Rattle.model.specs.declared.Refusal.{Refusal}
use Rattle.model.specs.Records.{bytes, over}
use Rattle.model.specs.Trees.{linearise, file_tree}
use Rattle.model.specs.Equalising.{equalise}
use Rattle.model.specs.Answers.{equalised, kept}
use Rattle.model.specs.Replies.{equalise_rows}

-- rows 8 and 9, and the result
pub record EqualisesSound (task : List ℕ) (σ : Settings) (old new : List ℕ) (r : Result Equalised Refusal) : Type 0 where
  pub reply : equalised r ≡ equalise_rows σ (file_tree task) (length old)
  pub leaves : new ≡ kept (equalise_rows σ (file_tree task) (length old)) (over (bytes (linearise (equalise σ (file_tree task)))) old) old
