-- Where the records of a laid file start, and what the functions that fill the table of it answer.
use Rattle.std.specs.Prelude.{ℕ, ◌+◌, ◌≤◌, max, ◌≡◌, List, [], ◌∷◌, ◌++◌, length}
use Rattle.std.proofs.lemmas.List.Edits.{sets}
use Rattle.model.specs.declared.Form.TheVariants.{Laid}
use Rattle.model.specs.declared.Settings.{Settings}
use Rattle.model.specs.Limits.{most_ticks}
use Rattle.model.specs.Trees.{Block, nil, skip, act, branch, while, times, size}
use Rattle.model.specs.Times.{time}
use Rattle.model.specs.Listing.{start_ticks}
use Rattle.reading.specs.Ranges.{Stands, InFile, first_size}
use Rattle.reading.specs.Walks.{StatementAt}
use Rattle.timing.specs.Blocks.{first_time}
use Rattle.listing.specs.declared.starts.Place.{Place}

-- the starts of a block's first statement
abbrev pub first_starts : Settings → Block → ℕ → List ℕ
first_starts σ nil t = []
first_starts σ (skip n b) t = t ∷ []
first_starts σ (act p b) t = t ∷ []
first_starts σ (branch q a d b) t = t ∷ (start_ticks σ a (t + 1) ++ (t + 1) ∷ (start_ticks σ d (t + 1) ++ (t + 1 + max (time σ a) (time σ d)) ∷ []))
first_starts σ (while q n a b) t = []
first_starts σ (times q n a b) t = []

-- m ticks ts are stored from i on, and the next record starts d ticks after t
pub record Stored (ts : List ℕ) (d m i t : ℕ) (old new : List ℕ) (r : Place) : Type 0 where
  pub table : new ≡ sets old i ts
  pub tick : r.tick ≡ t + d
  pub next : r.next ≡ i + m

-- the block at i starts at tick t, and the table has room
pub record Entered (s : List ℕ) (i to : ℕ) (σ : Settings) (t : ℕ) (out : List ℕ) : Type 0 where
  pub file : InFile Laid s i to
  pub room : to ≤ length out
  pub early : t + time σ file.block ≤ most_ticks

-- its first statement does
pub record Statement (s : List ℕ) (i to : ℕ) (σ : Settings) (t : ℕ) (out : List ℕ) : Type 0 where
  pub here : StatementAt Laid s i to
  pub room : to ≤ length out
  pub early : t + time σ here.file.block ≤ most_ticks

pub record BlockStarted (s : List ℕ) (i to : ℕ) (σ : Settings) (t : ℕ) (old new : List ℕ) (r : Place) : Type 0 where
  pub right : (b : Block) → Stands Laid s i to b → Stored (start_ticks σ b t) (time σ b) (size b) i t old new r

pub record StatementStarted (s : List ℕ) (i to : ℕ) (σ : Settings) (t : ℕ) (old new : List ℕ) (r : Place) : Type 0 where
  pub right : (b : Block) → Stands Laid s i to b → Stored (first_starts σ b t) (first_time σ b) (first_size b) i t old new r
