-- What measuring answers: the state once a part of the file is laid, or a tick above P.
use Rattle.std.specs.Prelude.{ℕ, ◌+◌, ◌≤◌, ◌<◌, max, ◌≡◌, List}
use Rattle.model.specs.declared.Form.TheVariants.{Equalised}
use Rattle.model.specs.declared.Settings.{Settings}
use Rattle.model.specs.Trees.{Block, size, file_tree}
use Rattle.model.specs.Times.{time}
use Rattle.model.specs.Equalising.{merge}
use Rattle.model.specs.Layout.{unroll, filled, lay, opened}
use Rattle.theory.specs.Windows.{Free}
use Rattle.records.specs.Blocks.{skip_records}
use Rattle.reading.specs.Ranges.{Stands, InFile, first_size}
use Rattle.reading.specs.Walks.{StatementAt}
use Rattle.placing.specs.declared.clock.State.{State}
use Rattle.layout.specs.declared.measure.Passage.{Passage}
use Rattle.placing.specs.States.{cap, Shows, Laying, After, back_to, started}
use Rattle.layout.specs.Ranges.{only}

-- an equalised block laid from tick t on
unfoldable pub laid : Settings → Block → ℕ → Block
laid σ b t = lay σ (unroll b) t

-- c is laid from s on, and the next record is j; or the tick is above P, as it is once c is laid
pub record Passes (σ : Settings) (c : Block) (j : ℕ) (s : State) (r : Passage) : Type 0 where
  pub late : σ.period < s.tick + time σ c → σ.period < r.state.tick
  pub after : s.tick + time σ c ≤ σ.period → After σ c s r.state
  pub goes : s.tick + time σ c ≤ σ.period → r.next ≡ j

-- the sides of an IF meet: its test ended at s, and they are laid as a and d
pub record Met (σ : Settings) (s : State) (a d : Block) (r : State) : Type 0 where
  pub shows : Shows σ r
  pub tick : r.tick ≡ s.tick + max (time σ a) (time σ d)
  pub wait : r.wait ≡ 0
  pub records : r.records ≡ cap (s.records + (2 + size (merge 0 (filled σ s.tick a r.tick)) + size (merge 0 (filled σ s.tick d r.tick))))

-- the clock of the later side, after n records and those of what waits there, and of what closes both sides
abbrev pub met_at : State → ℕ → State
met_at l n = record {
  tick = l.tick;
  ticks_left = l.ticks_left;
  windows_left = l.windows_left;
  wait = 0;
  records = cap
      (n + (2 + skip_records l.wait));
}

-- the sides of an IF end at x and y
pub record Meeting (σ : Settings) (x y : State) : Type 0 where
  pub one : Laying σ x
  pub two : Laying σ y
  pub free_one : Free σ 1 x.tick
  pub free_two : Free σ 1 y.tick

-- the second was counted after the first
pub record Meets (σ : Settings) (x y r : State) : Type 0 where
  pub right : (s : State) (a d : Block) → s.wait ≡ 0 → After σ a s x → After σ d (back_to s 0 x.records) y → Met σ s a d r

-- a block may be laid from a state on
pub record Ready (σ : Settings) (at : State) : Type 0 where
  pub laying : Laying σ at
  pub free : Free σ 0 at.tick

-- a block of the file is, or its first statement
pub record Entered (s : List ℕ) (i to : ℕ) (σ : Settings) (at : State) : Type 0 where
  pub file : InFile Equalised s i to
  pub ready : Ready σ at

pub record Statement (s : List ℕ) (i to : ℕ) (σ : Settings) (at : State) : Type 0 where
  pub here : StatementAt Equalised s i to
  pub ready : Ready σ at

-- what measuring answers for a block and for a statement of the file
pub record BlockPassed (s : List ℕ) (i to : ℕ) (σ : Settings) (at : State) (r : Passage) : Type 0 where
  pub right : (b : Block) → Stands Equalised s i to b → Passes σ (laid σ b at.tick) (i + size b) at r

pub record StatementPassed (s : List ℕ) (i to : ℕ) (σ : Settings) (at : State) (r : Passage) : Type 0 where
  pub right : (b : Block) → Stands Equalised s i to b → Passes σ (laid σ (only b) at.tick) (i + first_size b) at r

-- the whole file from tick 0 on, up to its last step
pub record FilePassed (s : List ℕ) (σ : Settings) (r : State) : Type 0 where
  pub late : σ.period < time σ (opened σ (unroll (file_tree s))) → σ.period < r.tick
  pub after : time σ (opened σ (unroll (file_tree s))) ≤ σ.period → After σ (opened σ (unroll (file_tree s))) started r
