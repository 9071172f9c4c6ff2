-- The ticks where the sides of each IF meet, in the order of entering, and the table that measuring notes them in.
use Rattle.std.specs.Prelude.{ℕ, ◌+◌, ◌*◌, ◌≤◌, ◌<◌, min, max, ◌≡◌, List, [], ◌∷◌, ◌++◌, length, get_or}
use Rattle.model.specs.declared.Form.TheVariants.{Equalised}
use Rattle.model.specs.declared.Settings.{Settings}
use Rattle.model.specs.Trees.{Block, nil, skip, act, branch, while, times, file_tree}
use Rattle.model.specs.Times.{ticks, time}
use Rattle.model.specs.Layout.{unroll, opened}
use Rattle.reading.specs.Ranges.{Stands}
use Rattle.placing.specs.declared.clock.State.{State}
use Rattle.layout.specs.declared.measure.Passage.{Passage}
use Rattle.layout.specs.Ranges.{only}
use Rattle.layout.specs.Measured.{laid, BlockPassed, StatementPassed, FilePassed}
use Rattle.layout.specs.Lent.{meeting_count}

-- of a laid block from tick t on: the meeting of an IF, those of its first side, of its second, and of what follows
abbrev pub meetings : Settings → Block → ℕ → List ℕ
meetings σ nil t = []
meetings σ (skip n b) t = meetings σ b (t + n)
meetings σ (act p b) t = meetings σ b (t + ticks σ p)
meetings σ (branch q a d b) t =
    let e = t + 1 + max (time σ a) (time σ d) in
    e ∷ (meetings σ a (t + 1) ++ (meetings σ d (t + 1) ++ meetings σ b e))
meetings σ (while q n a b) t = meetings σ b (t + (n * (time σ a + 1) + 1))
meetings σ (times q n a b) t = meetings σ b (t + (n * time σ a + 1))

-- a tick is noted at k, if the table has that place, and the others are unchanged
pub record Noting (k tick : ℕ) (old new : List ℕ) : Type 0 where
  pub same : length new ≡ length old
  pub there : k < meeting_count → k < length old → get_or new k 0 ≡ tick
  pub others : (j : ℕ) → (j ≡ k → ⊥) → get_or new j 0 ≡ get_or old j 0

-- the table from k on holds ms, as far as it goes, and below k it is unchanged
pub record Notes (ms : List ℕ) (k : ℕ) (old new : List ℕ) : Type 0 where
  pub same : length new ≡ length old
  pub kept : (j : ℕ) → j < k → get_or new j 0 ≡ get_or old j 0
  pub noted : (j : ℕ) → j < length ms → k + j < meeting_count → k + j < length old → get_or new (k + j) 0 ≡ get_or ms j 0

-- c is laid from tick t on, and its meetings are noted from k on; the next place is n, or the table is full
pub record Noted (σ : Settings) (c : Block) (t k n : ℕ) (old new : List ℕ) : Type 0 where
  pub next : n ≡ min (k + length (meetings σ c t)) meeting_count
  pub notes : Notes (meetings σ c t) k old new

-- the table from k on holds ms
pub record Holds (ms : List ℕ) (k : ℕ) (table : List ℕ) : Type 0 where
  pub room : k + length ms ≤ meeting_count
  pub there : (j : ℕ) → j < length ms → get_or table (k + j) 0 ≡ get_or ms j 0

-- what measuring answers and notes for a block and for a statement of the file, if it ends in time
pub record BlockMeasured (s : List ℕ) (i to : ℕ) (σ : Settings) (at : State) (k : ℕ) (old new : List ℕ) (r : Passage) : Type 0 where
  pub passed : BlockPassed s i to σ at r
  pub noted : (b : Block) → Stands Equalised s i to b → at.tick + time σ (laid σ b at.tick) ≤ σ.period
      → Noted σ (laid σ b at.tick) at.tick k r.ifs old new

pub record StatementMeasured (s : List ℕ) (i to : ℕ) (σ : Settings) (at : State) (k : ℕ) (old new : List ℕ) (r : Passage) : Type 0 where
  pub passed : StatementPassed s i to σ at r
  pub noted : (b : Block) → Stands Equalised s i to b → at.tick + time σ (laid σ (only b) at.tick) ≤ σ.period
      → Noted σ (laid σ (only b) at.tick) at.tick k r.ifs old new

-- and for the whole file: its meetings, if the table has room for all
pub record FileMeasured (s : List ℕ) (σ : Settings) (old new : List ℕ) (r : State) : Type 0 where
  pub passed : FilePassed s σ r
  pub noted : length old ≡ meeting_count → time σ (opened σ (unroll (file_tree s))) ≤ σ.period
      → length (meetings σ (opened σ (unroll (file_tree s))) 0) ≤ meeting_count
      → Holds (meetings σ (opened σ (unroll (file_tree s))) 0) 0 new
