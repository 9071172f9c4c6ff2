-- What the functions that write ask for, and what they leave in the buffer that they are lent.
use Rattle.std.specs.Prelude.{ℕ, ◌+◌, ◌^◌, ◌≤◌, ◌<◌, ◌≡◌, List, ◌++◌, length}
use Rattle.model.specs.declared.Settings.{Settings}
use Rattle.model.specs.declared.Form.TheVariants.{Task}
use Rattle.model.specs.Records.{Rec, record_bytes, IF, TIMES}
use Rattle.model.specs.Trees.{Block, size, test_rec, else_rec, end_rec}
use Rattle.model.specs.Times.{time}
use Rattle.records.specs.Blocks.{block_bytes, skip_bytes, Wrote}
use Rattle.reading.specs.Ranges.{InFile, test_of, first_size}
use Rattle.reading.specs.Walks.{StatementAt}
use Rattle.equaliser.specs.declared.write.Written.{Written}
use Rattle.equaliser.specs.Merged.{padded, first_out, first_waits}
use Rattle.equaliser.specs.declared.pads.Pad.{Pad}
use Rattle.equaliser.specs.Pads.{Kept}

-- PIECES

-- the TIMES that a WHILE with the record r becomes: up to its body, and what follows it
abbrev pub loop_head : Rec → List ℕ
loop_head r = record_bytes (test_rec TIMES (test_of r) r.count) ++ record_bytes (test_rec IF (test_of r) 0)

abbrev pub loop_tail : ℕ → List ℕ
loop_tail t = record_bytes else_rec ++ (skip_bytes t ++ (record_bytes end_rec ++ record_bytes end_rec))

-- CONTRACTS: the settings are those with which the table was made, and what is promised is promised for all such

-- the block at i, with k ticks of SKIP at its end
pub record BlockFits (s : List ℕ) (i to k : ℕ) (pads : List Pad) (out : List ℕ) : Type 0 where
  pub settings : Settings
  pub file : InFile Task s i to
  pub few : to ≤ 256
  pub kept : Kept settings s to pads 0 to
  pub within : time settings file.block + k < 2 ^ 32
  pub room : length (block_bytes (padded settings 0 file.block k)) ≤ length out

pub record WritesBlock (σ : Settings) (i k : ℕ) (b : Block) (old new : List ℕ) (r : Written) : Type 0 where
  pub wrote : Wrote (block_bytes (padded σ 0 b k)) old new r.bytes
  pub goes : r.next ≡ i + size b

pub record BlockWritten (s : List ℕ) (i to k : ℕ) (pads : List Pad) (old new : List ℕ) (r : Written) : Type 0 where
  pub right : (F : BlockFits s i to k pads old) → WritesBlock F.settings i k F.file.block old new r

-- its first statement, after w ticks of SKIP
pub record StatementFits (s : List ℕ) (i to w : ℕ) (pads : List Pad) (out : List ℕ) : Type 0 where
  pub settings : Settings
  pub statement : StatementAt Task s i to
  pub few : to ≤ 256
  pub kept : Kept settings s to pads 0 to
  pub within : w + time settings statement.file.block < 2 ^ 32
  pub room : length (block_bytes (first_out settings w statement.file.block)) ≤ length out

pub record WritesStatement (σ : Settings) (i w : ℕ) (b : Block) (old new : List ℕ) (r : Written) : Type 0 where
  pub wrote : Wrote (block_bytes (first_out σ w b)) old new r.bytes
  pub waits : r.wait ≡ first_waits w b
  pub goes : r.next ≡ i + first_size b

pub record StatementWritten (s : List ℕ) (i to w : ℕ) (pads : List Pad) (old new : List ℕ) (r : Written) : Type 0 where
  pub right : (F : StatementFits s i to w pads old) → WritesStatement F.settings i w F.statement.file.block old new r
