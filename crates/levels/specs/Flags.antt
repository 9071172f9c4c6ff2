-- Which blocks of a stack surely write, as the bits of a number.
use Rattle.std.specs.Prelude.{ℕ, ◌+◌, ◌*◌, List, [], ◌∷◌}
use Rattle.model.specs.Trees.{Block}
use Rattle.model.specs.Answers.{bit}
use Rattle.model.specs.Levels.{surely_writes}

unfoldable pub flags : List Block → ℕ
flags [] = 0
flags (b ∷ bs) = bit (surely_writes b) + 2 * flags bs
