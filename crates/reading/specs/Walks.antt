-- A walk over a block of a file, statement by statement: the statement at a place, the blocks inside it, and what is left at a turn.
use Rattle.std.specs.Prelude.{◌≡◌, List, false, ℕ, ◌+◌, ◌≤◌, ◌<◌}
use Rattle.model.specs.declared.Form.{Form}
use Rattle.model.specs.Records.{kind_at, record_at}
use Rattle.model.specs.Trees.{Block, branch, size, depth}
use Rattle.reading.specs.Closing.{closes_block}
use Rattle.reading.specs.Ranges.{Stands, InFile, first_part, second_part, after_first, test_of}

-- a statement stands at i: a block that is not empty
pub record StatementAt (f : Form) (s : List ℕ) (i to : ℕ) : Type 0 where
  pub file : InFile f s i to
  pub early : i < to
  pub goes_on : closes_block (kind_at s i) ≡ false

-- the statement at i opens a block, which ends at the ELSE or END of its own
pub record OpenAt (f : Form) (s : List ℕ) (i to : ℕ) (b : Block) : Type 0 where
  pub first : Stands f s (i + 1) to (first_part b)
  pub ends : i + 1 + size (first_part b) < to
  pub deeper : 1 + depth (first_part b) ≤ depth b

-- it is an IF, with both sides
pub record IfAt (f : Form) (s : List ℕ) (i to : ℕ) (b : Block) : Type 0 where
  pub is : b ≡ branch (test_of (record_at s i)) (first_part b) (second_part b) (after_first b)
  pub first : Stands f s (i + 1) to (first_part b)
  pub second : Stands f s (i + 1 + size (first_part b) + 1) to (second_part b)
  pub ends : i + 1 + size (first_part b) + 1 + size (second_part b) < to

-- of a block that stands at `from`, the records from i on are left
pub record Walk {f : Form} {s : List ℕ} {from to : ℕ} (all : InFile f s from to) (i : ℕ) : Type 0 where
  pub rest : InFile f s i to
  pub on : from ≤ i
  pub counts : i + size rest.block ≡ from + size all.block
  pub shallow : depth rest.block ≤ depth all.block
