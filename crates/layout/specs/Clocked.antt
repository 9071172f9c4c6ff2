-- What measuring on a lent clock asks for and answers.
use Rattle.std.specs.Prelude.{ℕ, ◌+◌, ◌≤◌, ◌<◌, ◌≡◌, List, Option, None, Some}
use Rattle.model.specs.declared.Settings.{Settings}
use Rattle.model.specs.Records.{Rec, SKIP}
use Rattle.model.specs.declared.Form.TheVariants.{Equalised}
use Rattle.model.specs.Trees.{Block, file_tree}
use Rattle.model.specs.Times.{time, longest}
use Rattle.model.specs.Layout.{unroll, opened}
use Rattle.reading.specs.Ranges.{Stands}
use Rattle.timing.specs.Times.{step_ticks}
use Rattle.placing.specs.declared.clock.State.{State}
use Rattle.placing.specs.States.{Laying, Stepped, Skipped}
use Rattle.layout.specs.declared.lent.Clock.{Clock}
use Rattle.layout.specs.declared.measure.Passage.{Passage}
use Rattle.layout.specs.Ranges.{only}
use Rattle.layout.specs.Measured.{laid}
use Rattle.layout.specs.Meetings.{BlockMeasured, StatementMeasured, FileMeasured}

-- a step or a SKIP with the record x
pub record StepStarts (σ : Settings) (x : Rec) (s : State) : Type 0 where
  pub laying : Laying σ s
  pub fits : (x.kind ≡ SKIP → ⊥) → (1 ≤ step_ticks σ x) × (step_ticks σ x ≤ longest σ)

pub record StepEnds (σ : Settings) (x : Rec) (s r : State) : Type 0 where
  pub skips : x.kind ≡ SKIP → Skipped σ x.count s r
  pub steps : (x.kind ≡ SKIP → ⊥) → Stepped σ s (step_ticks σ x) r

-- a state whose tick is not above p
abbrev pub InTime : ℕ → State → Option State → Type 0
InTime p s None = p < s.tick
InTime p s (Some r) = (r ≡ s) × (s.tick ≤ p)

-- what a clock says once a part of the file is measured, where the next record is j
abbrev pub passage : Clock → ℕ → Passage
passage c j = record { state = c.state; next = j; ifs = c.place }

-- the block that stands at i, or its first statement, ends above P
pub record BlockLate (s : List ℕ) (i to : ℕ) (σ : Settings) (at : State) : Type 0 where
  pub late : (b : Block) → Stands Equalised s i to b → σ.period < at.tick + time σ (laid σ b at.tick)

pub record StatementLate (s : List ℕ) (i to : ℕ) (σ : Settings) (at : State) : Type 0 where
  pub late : (b : Block) → Stands Equalised s i to b → σ.period < at.tick + time σ (laid σ (only b) at.tick)

-- the clock c becomes d, the table old becomes new, and the next record is told; or it is given up
abbrev pub BlockClocked : List ℕ → ℕ → ℕ → Settings → Clock → Clock → List ℕ → List ℕ → Option ℕ → Type 0
BlockClocked s i to σ c d old new None = BlockLate s i to σ c.state
BlockClocked s i to σ c d old new (Some j) = (BlockMeasured s i to σ c.state c.place old new (passage d j)) × (d.state.tick ≤ σ.period)

abbrev pub StatementClocked : List ℕ → ℕ → ℕ → Settings → Clock → Clock → List ℕ → List ℕ → Option ℕ → Type 0
StatementClocked s i to σ c d old new None = StatementLate s i to σ c.state
StatementClocked s i to σ c d old new (Some j) = (StatementMeasured s i to σ c.state c.place old new (passage d j)) × (d.state.tick ≤ σ.period)

-- the whole file
abbrev pub FileClocked : List ℕ → Settings → List ℕ → List ℕ → Option State → Type 0
FileClocked s σ old new None = σ.period < time σ (opened σ (unroll (file_tree s)))
FileClocked s σ old new (Some r) = FileMeasured s σ old new r
