-- A block inside a loop or an IF, laid over what is lent, as a step of Part.
use Prim.Native.Nat.{ℕ, ◌+◌, ◌^◌, ◌≤◌, ◌<◌}
use native.Mathlib.Omega.{arith}
use mathlib.Core.{Path.◌≡◌, List.List, List.◌++◌}
use Rattle.model.specs.declared.Settings.{Settings}
use Rattle.model.specs.declared.Form.TheVariants.{Task}
use Rattle.model.specs.{Trees.size, Times.time}
use Rattle.records.specs.Blocks.{block_bytes}
use Rattle.records.proofs.Over.{Part, lent, back, part_fits}
use Rattle.records.proofs.Laying.{wrote_next}
use Rattle.reading.specs.Ranges.{InFile}
use Rattle.equaliser.specs.declared.{pads.Pad.Pad, write.Written.Written}
use Rattle.equaliser.specs.{Merged.padded, Pads.Kept, Written.BlockFits, Written.BlockWritten}

-- it comes next, with l ticks of SKIP at its end
module _ {s : List ℕ} {i to : ℕ} (T : InFile Task s i to) (few : to ≤ 256) {σ : Settings} {pads : List Pad} (K : Kept σ s to pads 0 to)
    {k : ℕ} (l : ℕ) (e : k ≡ l) (h : time σ T.block + l < 2 ^ 32) (rest : List ℕ) {w old new : List ℕ} {at : ℕ}
    (p : Part w (block_bytes (padded σ 0 T.block l) ++ rest) old new at) where
  abbrev pub block_fits : BlockFits s i to k pads (lent new at)
  block_fits = record { settings = σ; file = T; few = few; kept = K; within = omega arith; room = rw e (part_fits (block_bytes (padded σ 0 T.block l)) rest p) }

  module _ {ys : List ℕ} {r : Written} (W : BlockWritten s i to k pads (lent new at) ys r) where
    pub block_laid : Part w rest old (back new at ys) (at + r.bytes)
    block_laid = wrote_next (block_bytes (padded σ 0 T.block l)) p (rw e at (W.right block_fits).wrote)

    pub block_goes : r.next ≡ i + size T.block
    block_goes = (W.right block_fits).goes
