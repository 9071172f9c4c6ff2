-- The bytes of a block, what waiting ticks of SKIP become, and what a function that writes bytes leaves.
use Rattle.std.specs.Prelude.{◌≡◌, ℕ, List, length}
use Rattle.model.specs.Records.{bytes, over}
use Rattle.model.specs.Trees.{Block, nil, size, linearise}
use Rattle.model.specs.Equalising.{waiting}

-- the bytes of a block
unfoldable pub block_bytes : Block → List ℕ
block_bytes b = bytes (linearise b)

-- the records that n waiting ticks of SKIP become: one, or none
abbrev pub skip_records : ℕ → ℕ
skip_records n = size (waiting n nil)

-- and their bytes
abbrev pub skip_bytes : ℕ → List ℕ
skip_bytes n = block_bytes (waiting n nil)

-- bs is laid over the front of old, and n is its length
pub record Wrote (bs old new : List ℕ) (n : ℕ) : Type 0 where
  pub laid : new ≡ over bs old
  pub count : n ≡ length bs
