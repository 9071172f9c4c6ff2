-- The lines of the records of a laid file, with a table of the ticks at which they start.
use Rattle.std.specs.Prelude.{ℕ, zero, suc, ◌+◌, List, [], ◌∷◌, get_or}
use Rattle.model.specs.declared.Line.{Line}
use Rattle.model.specs.Records.{record_at}
use Rattle.model.specs.Listing.{line_of}

-- the lines of n records from index i on, as a laid file and a table of starts have them
abbrev pub lines_in : List ℕ → List ℕ → ℕ → ℕ → List Line
lines_in laid table i zero = []
lines_in laid table i (suc n) = line_of (get_or table i 0) (record_at laid i) ∷ lines_in laid table (i + 1) n
