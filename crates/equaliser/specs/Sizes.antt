-- What the first pass asks for, and what it answers: the time of a block, how many records it is equalised to, and where it ends.
use Rattle.std.specs.Prelude.{ℕ, ◌+◌, ◌^◌, ◌≤◌, ◌<◌, ◌≡◌, List, Option, None, Some}
use Rattle.model.specs.declared.Settings.{Settings}
use Rattle.model.specs.declared.Form.TheVariants.{Task}
use Rattle.model.specs.Records.{SKIP}
use Rattle.model.specs.Trees.{Block, size}
use Rattle.model.specs.Times.{time}
use Rattle.records.specs.declared.Record.{Record}
use Rattle.records.specs.Records.{record_of}
use Rattle.records.specs.Blocks.{skip_records}
use Rattle.reading.specs.Ranges.{InFile, first_size}
use Rattle.reading.specs.Walks.{StatementAt}
use Rattle.timing.specs.Times.{step_ticks}
use Rattle.timing.specs.Blocks.{first_time}
use Rattle.equaliser.specs.declared.measure.Extent.{Extent}
use Rattle.equaliser.specs.Merged.{padded, first_out, first_waits}
use Rattle.equaliser.specs.declared.pads.Pad.{Pad}
use Rattle.equaliser.specs.Pads.{Kept, Same}

-- small enough that no sum of extents overflows
pub record Small (r : Extent) : Type 0 where
  pub few : r.records ≤ 1025
  pub short : r.wait ≤ 2 ^ 32

-- a time above the period, or the time and what else is so
abbrev pub Takes : Settings → ℕ → (Extent → Type 0) → Option Extent → Type 0
Takes σ t Done None = σ.period < t
Takes σ t Done (Some r) = (t ≡ r.ticks) × (t ≤ σ.period) × Done r

-- A RECORD THAT OPENS NO BLOCK

pub record PlainDone (r : Record) (w next : ℕ) (e : Extent) : Type 0 where
  pub goes : e.next ≡ next
  pub skips : r.kind ≡ SKIP → (e.records ≡ 0) × (e.wait ≡ w + r.count)
  pub acts : (r.kind ≡ SKIP → ⊥) → (e.records ≡ skip_records w + 1) × (e.wait ≡ 0)

abbrev pub PlainSize : Settings → Record → ℕ → ℕ → Option Extent → Type 0
PlainSize σ r w next e = Takes σ (step_ticks σ (record_of r)) (PlainDone r w next) e

-- A BLOCK of a task, which has at most 256 records

pub record BlockAsks (s : List ℕ) (i to : ℕ) : Type 0 where
  pub file : InFile Task s i to
  pub few : to ≤ 256

-- the block b, at i, is within the period: for k ticks of SKIP at its end it becomes so many records, and its IFs and loops are kept
pub record BlockDone (s : List ℕ) (i to : ℕ) (σ : Settings) (pads : List Pad) (b : Block) (r : Extent) : Type 0 where
  pub goes : r.next ≡ i + size b
  pub counts : (k : ℕ) → size (padded σ 0 b k) ≡ r.records + skip_records (r.wait + k)
  pub small : Small r
  pub kept : Kept σ s to pads i (i + size b)

abbrev pub IsBlock : List ℕ → ℕ → ℕ → Settings → List Pad → Block → Option Extent → Type 0
IsBlock s i to σ pads b r = Takes σ (time σ b) (BlockDone s i to σ pads b) r

pub record BlockSize (s : List ℕ) (i to : ℕ) (σ : Settings) (old new : List Pad) (r : Option Extent) : Type 0 where
  pub right : (F : InFile Task s i to) → IsBlock s i to σ new F.block r
  pub before : Same 0 i old new

-- ITS FIRST STATEMENT, AFTER w TICKS OF SKIP

pub record StatementAsks (s : List ℕ) (i to w : ℕ) : Type 0 where
  pub statement : StatementAt Task s i to
  pub few : to ≤ 256
  pub short : w ≤ 2 ^ 32

pub record StatementDone (s : List ℕ) (i to : ℕ) (σ : Settings) (w : ℕ) (pads : List Pad) (b : Block) (r : Extent) : Type 0 where
  pub goes : r.next ≡ i + first_size b
  pub counts : r.records ≡ size (first_out σ w b)
  pub waits : r.wait ≡ first_waits w b
  pub kept : Kept σ s to pads i (i + first_size b)

abbrev pub IsStatement : List ℕ → ℕ → ℕ → Settings → ℕ → List Pad → Block → Option Extent → Type 0
IsStatement s i to σ w pads b r = Takes σ (first_time σ b) (StatementDone s i to σ w pads b) r

pub record StatementSize (s : List ℕ) (i to : ℕ) (σ : Settings) (w : ℕ) (old new : List Pad) (r : Option Extent) : Type 0 where
  pub right : (A : StatementAt Task s i to) → IsStatement s i to σ w new A.file.block r
  pub before : Same 0 i old new
