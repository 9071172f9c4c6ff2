-- What the functions over ranges of records answer, for every block that fills the range or stands at its start.
use Rattle.std.specs.Prelude.{ℕ, ◌+◌, ◌*◌, ◌≤◌, ◌<◌, max, ◌≡◌, List, Option, None, Some}
use Rattle.model.specs.declared.Form.{Form}
use Rattle.model.specs.declared.Settings.{Settings}
use Rattle.model.specs.Trees.{Block, nil, skip, act, branch, while, times, size, depth}
use Rattle.model.specs.Times.{ticks, time}
use Rattle.reading.specs.Ranges.{Fills, InFile, first_size}
use Rattle.reading.specs.Walks.{StatementAt}
use Rattle.timing.specs.declared.blocks.Step.{Step}
use Rattle.timing.specs.Times.{Gives}

-- the time of a block's first statement
abbrev pub first_time : Settings → Block → ℕ
first_time σ nil = 0
first_time σ (skip n b) = n
first_time σ (act p b) = ticks σ p
first_time σ (branch q a d b) = 1 + max (time σ a) (time σ d)
first_time σ (while q n a b) = n * (time σ a + 1) + 1
first_time σ (times q n a b) = n * time σ a + 1

-- t ticks pass up to the record at j, or more than the period
abbrev pub Passes : Settings → ℕ → ℕ → Option Step → Type 0
Passes σ t j None = σ.period < t
Passes σ t j (Some r) = (t ≡ r.ticks) × (t ≤ σ.period) × (r.next ≡ j)

-- where a step goes on, if it does
abbrev pub Between : ℕ → ℕ → Option Step → Type 0
Between i to None = Unit {0}
Between i to (Some r) = (i ≤ r.next) × (r.next ≤ to)

-- the first statement of a block, and the whole block
pub record StatementTimes (s : List ℕ) (i to d : ℕ) (σ : Settings) (r : Option Step) : Type 0 where
  pub inside : Between (i + 1) to r
  pub right : (f : Form) (A : StatementAt f s i to) → depth A.file.block ≤ d → Passes σ (first_time σ A.file.block) (i + first_size A.file.block) r

pub record SequenceTimes (s : List ℕ) (i to d : ℕ) (σ : Settings) (r : Option Step) : Type 0 where
  pub inside : Between i to r
  pub right : (f : Form) (F : InFile f s i to) → depth F.block ≤ d → Passes σ (time σ F.block) (i + size F.block) r

pub record BlockTimes (s : List ℕ) (i to d : ℕ) (σ : Settings) (r : Option ℕ) : Type 0 where
  pub right : (f : Form) (b : Block) → Fills f s i to d b → Gives σ.period (time σ b) r
