-- The open blocks of the model's scan as two numbers.
use Rattle.std.specs.Prelude.{ℕ, ◌+◌, ◌*◌, List, [], ◌∷◌, length, Option, None, Some}
use Rattle.model.specs.Refusals.{Open, first, second, loop, Nesting, misplaced, inside}
use Rattle.reading.specs.declared.nesting.Blocks.{Blocks}

-- whether a block waits for its ELSE
abbrev pub waits : Open → ℕ
waits first = 1
waits second = 0
waits loop = 0

-- a bit for each, the innermost lowest
unfoldable pub bits : List Open → ℕ
bits [] = 0
bits (o ∷ os) = waits o + 2 * bits os

abbrev pub blocks : List Open → Blocks
blocks os = record { depth = length os; waiting = bits os }

abbrev pub nested : Nesting → Option Blocks
nested misplaced = None
nested (inside os) = Some (blocks os)
