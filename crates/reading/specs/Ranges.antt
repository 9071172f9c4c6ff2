-- A block that fills a range of a file's records: what the contracts over ranges speak of.
use Rattle.std.specs.Prelude.{◌≡◌, List, true, ℕ, ◌+◌, ◌*◌, ◌≤◌, ◌<◌, length}
use Rattle.model.specs.Limits.{file_records}
use Rattle.model.specs.declared.Form.{Form}
use Rattle.model.specs.Records.{Rec, kind_at}
use Rattle.model.specs.Trees.{Test, Block, nil, skip, act, branch, while, times, size, depth}
use Rattle.model.specs.Refusals.{sound, fault}
use Rattle.model.specs.Standing.{At, OfForm}
use Rattle.reading.specs.Closing.{closes_block}

-- the records from i up to, not including, to are those of b, a block of form f that nests at most d deep
pub record Fills (f : Form) (s : List ℕ) (i to d : ℕ) (b : Block) : Type 0 where
  pub stands : At s i b
  pub ends : i + size b ≡ to
  pub shallow : depth b ≤ d
  pub of_form : OfForm f b

-- a file that passed the scan
pub record SoundFile (f : Form) (file : List ℕ) : Type 0 where
  pub sound : fault f file ≡ sound

-- b stands at i of the records up to `to`: it ends at the ELSE or END that closes it, or with them
pub record Stands (f : Form) (s : List ℕ) (i to : ℕ) (b : Block) : Type 0 where
  pub fills : Fills f s i (i + size b) (depth b) b
  pub ends : i + size b ≤ to
  pub stops : i + size b < to → closes_block (kind_at s (i + size b)) ≡ true

-- a block stands at i
pub record InFile (f : Form) (s : List ℕ) (i to : ℕ) : Type 0 where
  pub block : Block
  pub stands : Stands f s i to block
  pub inside : 12 * to ≤ length s

-- the records of a file, one block up to `to`, whose table of closings has room
pub record Fillable (s : List ℕ) (to : ℕ) (closings : List ℕ) : Type 0 where
  pub form : Form
  pub file : InFile form s 0 to
  pub ends : size file.block ≡ to
  pub few : to ≤ file_records
  pub room : to < length closings

-- a range of the records of s
pub record Ranged (s : List ℕ) (i to : ℕ) : Type 0 where
  pub order : i ≤ to
  pub inside : 12 * to ≤ length s

-- the number of records of a block's first statement, and the block after it
abbrev pub first_size : Block → ℕ
first_size nil = 0
first_size (skip n b) = 1
first_size (act p b) = 1
first_size (branch q a d b) = 3 + size a + size d
first_size (while q n a b) = 2 + size a
first_size (times q n a b) = 2 + size a

abbrev pub after_first : Block → Block
after_first nil = nil
after_first (skip n b) = b
after_first (act p b) = b
after_first (branch q a d b) = b
after_first (while q n a b) = b
after_first (times q n a b) = b

-- the first block inside it: an IF's first side, or a loop's body
abbrev pub first_part : Block → Block
first_part nil = nil
first_part (skip n b) = nil
first_part (act p b) = nil
first_part (branch q a d b) = a
first_part (while q n a b) = a
first_part (times q n a b) = a

-- an IF's second side
abbrev pub second_part : Block → Block
second_part nil = nil
second_part (skip n b) = nil
second_part (act p b) = nil
second_part (branch q a d b) = d
second_part (while q n a b) = nil
second_part (times q n a b) = nil

-- the test in a record
abbrev pub test_of : Rec → Test
test_of r = record { relation = r.op; left = r.left; right = r.value }
