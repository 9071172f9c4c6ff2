-- The table that the first pass keeps for the second: two numbers for each record that opens a block.
use Rattle.std.specs.Prelude.{ℕ, ◌-◌, ◌≤◌, ◌<◌, ◌≡◌, List, get_or}
use Rattle.model.specs.declared.Settings.{Settings}
use Rattle.model.specs.declared.Form.TheVariants.{Task}
use Rattle.model.specs.Trees.{Block, nil, skip, act, branch, while, times}
use Rattle.model.specs.Times.{time}
use Rattle.reading.specs.Ranges.{Stands}
use Rattle.equaliser.specs.declared.pads.Pad.{Pad}

abbrev pub pad_of : ℕ → ℕ → Pad
pad_of x y = record { first = x; second = y }

-- what is kept for the record j
abbrev pub pad_at : List Pad → ℕ → Pad
pad_at t j = get_or t j (pad_of 0 0)

-- what is kept for the first statement of a block: the ticks that pad each side of an IF, and the time of a WHILE's body
abbrev pub Entry : Settings → Pad → Block → Type 0
Entry σ p nil = Unit {0}
Entry σ p (skip n b) = Unit {0}
Entry σ p (act r b) = Unit {0}
Entry σ p (branch q a d b) = p ≡ pad_of (time σ d - time σ a) (time σ a - time σ d)
Entry σ p (while q n a b) = p.first ≡ time σ a
Entry σ p (times q n a b) = Unit {0}

-- and for every statement of the task s at the records from i up to, not including, j
pub record Kept (σ : Settings) (s : List ℕ) (to : ℕ) (t : List Pad) (i j : ℕ) : Type 0 where
  pub entry : (k : ℕ) → i ≤ k → k < j → (b : Block) → Stands Task s k to b → Entry σ (pad_at t k) b

-- what is kept for the records from i up to, not including, j is unchanged
pub record Same (i j : ℕ) (old new : List Pad) : Type 0 where
  pub same : (k : ℕ) → i ≤ k → k < j → pad_at new k ≡ pad_at old k
