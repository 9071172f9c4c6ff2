-- What the functions that write ask for, and what they leave in the buffer that they are lent.
use Rattle.std.specs.Prelude.{ℕ, ◌+◌, ◌≤◌, ◌≡◌, List, ◌++◌, length}
use Rattle.model.specs.declared.Form.TheVariants.{Equalised}
use Rattle.model.specs.declared.Settings.{Settings}
use Rattle.model.specs.Records.{Rec, record_bytes, over}
use Rattle.model.specs.Trees.{Block, size, file_tree}
use Rattle.model.specs.Times.{time}
use Rattle.model.specs.Equalising.{merge}
use Rattle.model.specs.Layout.{unroll, filled, opened, layout, total}
use Rattle.records.specs.Blocks.{block_bytes}
use Rattle.reading.specs.Ranges.{SoundFile, Stands, first_size}
use Rattle.placing.specs.declared.clock.State.{State}
use Rattle.layout.specs.declared.measure.Passage.{Passage}
use Rattle.placing.specs.States.{Layable}
use Rattle.placing.specs.Placed.{Room, Lays, Closed}
use Rattle.layout.specs.Ranges.{only}
use Rattle.layout.specs.Measured.{laid, Entered, Statement}
use Rattle.layout.specs.Meetings.{meetings, Holds}
use Rattle.model.specs.Limits.{file_records}
use Rattle.theory.specs.Windows.{Free}

-- the block or statement that is laid as c next, and that ends in time
pub record LaidFits (σ : Settings) (c : Block) (s : State) (out : List ℕ) : Type 0 where
  pub within : s.tick + time σ c ≤ σ.period
  pub room : Room c s out

pub record BlockFits (s : List ℕ) (i to : ℕ) (σ : Settings) (at : State) (k : ℕ) (table out : List ℕ) : Type 0 where
  pub entered : Entered s i to σ at
  pub fits : LaidFits σ (laid σ entered.file.block at.tick) at out
  pub holds : Holds (meetings σ (laid σ entered.file.block at.tick) at.tick) k table

pub record StatementFits (s : List ℕ) (i to : ℕ) (σ : Settings) (at : State) (k : ℕ) (table out : List ℕ) : Type 0 where
  pub statement : Statement s i to σ at
  pub fits : LaidFits σ (laid σ (only statement.here.file.block) at.tick) at out
  pub holds : Holds (meetings σ (laid σ (only statement.here.file.block) at.tick) at.tick) k table

-- a side of an IF with the block b from s on, filled up to tick e and closed by the record x
abbrev pub side_bytes : Settings → State → Block → ℕ → Rec → List ℕ
side_bytes σ s b e x = block_bytes (merge s.wait (filled σ s.tick (laid σ b s.tick) e)) ++ record_bytes x

pub record SideFits (s : List ℕ) (i to : ℕ) (σ : Settings) (at : State) (e : ℕ) (x : Rec) (k : ℕ) (table out : List ℕ) : Type 0 where
  pub entered : Entered s i to σ at
  pub reaches : at.tick + time σ (laid σ entered.file.block at.tick) ≤ e
  pub upto : e ≤ σ.period
  pub free : Free σ 1 e
  pub few : at.records + size (merge at.wait (filled σ at.tick (laid σ entered.file.block at.tick) e)) ≤ file_records
  pub room : length (side_bytes σ at entered.file.block e x) ≤ length out
  pub holds : Holds (meetings σ (laid σ entered.file.block at.tick) at.tick) k table

-- the side is laid, and the next record is j
pub record SideLays (σ : Settings) (b : Block) (e : ℕ) (x : Rec) (j k : ℕ) (at : State) (old new : List ℕ) (r : Passage) : Type 0 where
  pub closed : Closed σ (filled σ at.tick (laid σ b at.tick) e) at r.state
  pub wrote : new ≡ over (side_bytes σ at b e x) old
  pub goes : r.next ≡ j
  pub ifs : r.ifs ≡ k + length (meetings σ (laid σ b at.tick) at.tick)

pub record SideLaid (s : List ℕ) (i to : ℕ) (σ : Settings) (at : State) (e : ℕ) (x : Rec) (k : ℕ) (old new : List ℕ) (r : Passage) : Type 0 where
  pub right : (b : Block) → Stands Equalised s i to b → SideLays σ b e x (i + size b) k at old new r

-- c is laid from s on, and the next record is j; the places of the table from k on are those of its meetings
pub record LaysTo (σ : Settings) (c : Block) (j k : ℕ) (s : State) (old new : List ℕ) (r : Passage) : Type 0 where
  pub lays : Lays σ c s old new r.state
  pub goes : r.next ≡ j
  pub ifs : r.ifs ≡ k + length (meetings σ c s.tick)

-- what is written for a block or a statement of the file
pub record BlockLaid (s : List ℕ) (i to : ℕ) (σ : Settings) (at : State) (k : ℕ) (old new : List ℕ) (r : Passage) : Type 0 where
  pub right : (b : Block) → Stands Equalised s i to b → LaysTo σ (laid σ b at.tick) (i + size b) k at old new r

pub record StatementLaid (s : List ℕ) (i to : ℕ) (σ : Settings) (at : State) (k : ℕ) (old new : List ℕ) (r : Passage) : Type 0 where
  pub right : (b : Block) → Stands Equalised s i to b → LaysTo σ (laid σ (only b) at.tick) (i + first_size b) k at old new r

-- the whole file, up to its last step and then the tail
pub record FileFits (s : List ℕ) (σ : Settings) (table out : List ℕ) : Type 0 where
  pub sound : SoundFile Equalised s
  pub settings : Layable σ
  pub in_time : total σ (file_tree s) ≤ σ.period
  pub few : size (layout σ (file_tree s)) ≤ file_records
  pub room : length (block_bytes (layout σ (file_tree s))) ≤ length out
  pub holds : Holds (meetings σ (opened σ (unroll (file_tree s))) 0) 0 table
