-- What laying out an equalised file that was read answers and leaves, with settings that were read.
use Rattle.std.specs.Prelude.{ℕ, ◌≤◌, ◌≡◌, List, length, Result}
use Rattle.model.specs.Limits.{most_ticks}
use Rattle.model.specs.declared.Settings.{Settings}
use Rattle.model.specs.declared.LaidOut.{LaidOut}
use Rattle.model.specs.declared.Refusal.{Refusal}
use Rattle.model.specs.Records.{bytes, over}
use Rattle.model.specs.Trees.{linearise, file_tree}
use Rattle.model.specs.Layout.{layout}
use Rattle.model.specs.Answers.{laid_out, kept}
use Rattle.model.specs.Placement.{Positive}
use Rattle.model.specs.Replies.{lay_out_rows}

-- settings that were read
pub record InRange (σ : Settings) : Type 0 where
  pub positive : Positive σ
  pub narrow : σ.window ≤ most_ticks
  pub short : σ.period ≤ most_ticks

-- rows 7 to 9, and the result
pub record LaysOutSound (file : List ℕ) (σ : Settings) (old new : List ℕ) (r : Result LaidOut Refusal) : Type 0 where
  pub reply : laid_out r ≡ lay_out_rows σ (file_tree file) (length old)
  pub leaves : new ≡ kept (lay_out_rows σ (file_tree file) (length old)) (over (bytes (linearise (layout σ (file_tree file)))) old) old
