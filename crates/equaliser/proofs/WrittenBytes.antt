-- The bytes of what is written: a block's first statement and what follows it, and each statement's own.
use Prim.Native.Nat.{ℕ, ◌-◌}
use mathlib.Core.Path.{◌≡◌, ap, ◌∙◌}
use mathlib.Core.List.{List, ◌++◌, append_assoc, append-nil}
use Rattle.model.specs.declared.Settings.{Settings}
use Rattle.model.specs.{Records.Rec, Records.record_bytes, Records.bytes, Times.time}
use Rattle.model.specs.Trees.{Block, linearise, else_rec, end_rec}
use Rattle.records.specs.Blocks.{block_bytes}
use Rattle.records.proofs.Blocks.{bytes-++, bytes-⧺}
use Rattle.reading.specs.Ranges.{test_of, after_first}
use Rattle.equaliser.specs.Merged.{padded, loop_out, first_out, first_waits}
use Rattle.equaliser.specs.Written.{loop_head, loop_tail}
use Rattle.equaliser.proofs.Merged.{padded_first}

-- an IF that opens with the record r
abbrev pub branch_bytes : Settings → Rec → Block → Block → List ℕ
branch_bytes σ r a d =
    record_bytes r ++ (block_bytes (padded σ 0 a (time σ d - time σ a)) ++ (record_bytes else_rec ++ (block_bytes (padded σ 0 d (time σ a - time σ d)) ++ record_bytes end_rec)))

-- the TIMES that a WHILE with the record r becomes, whose body is a
abbrev pub loop_bytes : Settings → Rec → Block → List ℕ
loop_bytes σ r a = loop_head r ++ (block_bytes (padded σ 0 a 0) ++ loop_tail (time σ a))

module _ (σ : Settings) where
  pub loop_bytes_is : (r : Rec) (a : Block) → block_bytes (loop_out σ (test_of r) r.count a) ≡ loop_bytes σ r a
  unfolding block_bytes linearise bytes
  loop_bytes_is r a = simp (bytes-++, append-nil, append_assoc)

  pub first_bytes : (n : ℕ) (b : Block) (k : ℕ)
      → block_bytes (padded σ n b k) ≡ block_bytes (first_out σ n b) ++ block_bytes (padded σ (first_waits n b) (after_first b) k)
  first_bytes n b k = ap block_bytes (padded_first σ n b k) ∙ bytes-⧺ (first_out σ n b) (padded σ (first_waits n b) (after_first b) k)
