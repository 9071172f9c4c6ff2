-- A block written statement by statement: what is laid, what waits and what is left, turn by turn.
use Prim.Native.Nat.{ℕ, ◌+◌, ◌^◌, ◌≤◌, ◌<◌}
use native.Mathlib.Omega.{arith}
use mathlib.Core.{Path.◌≡◌, Path.subst, Bool.true, Bool.false, List.List, List.◌++◌}
use mathlib.Core.Logic.{◌⊎◌, inl, inr}
use lib.ListN.{length}
use Rattle.model.specs.declared.Settings.{Settings}
use Rattle.model.specs.{Records.kind_at, Trees.Block, Trees.nil, Times.time}
use Rattle.records.specs.Blocks.{block_bytes, skip_bytes, Wrote}
use Rattle.records.proofs.Over.{Part, lent, back, part_start, part_fits, part_fits_last}
use Rattle.records.proofs.Laying.{wrote_next, wrote_room, wrote_last}
use Rattle.reading.specs.{Closing.closes_block, Ranges.after_first, Walks.Walk}
use Rattle.reading.proofs.Walking.{walk_start, none_closed, none_ended, walk_end, walk_at, walk_on, walk_next}
use Rattle.timing.proofs.Firsts.{time_first}
use Rattle.equaliser.specs.declared.{pads.Pad.Pad, write.Written.Written}
use Rattle.equaliser.specs.Merged.{padded, first_out, first_waits}
use Rattle.equaliser.specs.Written.{BlockFits, WritesBlock, StatementFits, WritesStatement, StatementWritten}
use Rattle.equaliser.proofs.{Merged.waits_less, WrittenBytes.first_bytes}

-- of the block at `from`, with k ticks of SKIP at its end: what stands at i is left, and w ticks of SKIP wait
pub record Writing {s : List ℕ} {from to k : ℕ} {pads : List Pad} {old : List ℕ} (F : BlockFits s from to k pads old) (new : List ℕ) (at w i : ℕ) : Type 0 where
  pub walk : Walk F.file i
  pub within : w + time F.settings walk.rest.block + k < 2 ^ 32
  pub part : Part (block_bytes (padded F.settings 0 F.file.block k)) (block_bytes (padded F.settings w walk.rest.block k)) old new at

module _ {s : List ℕ} {from to k : ℕ} {pads : List Pad} {old : List ℕ} (F : BlockFits s from to k pads old) where
  pub writing_start : Writing F old 0 0 from
  writing_start = record { walk = walk_start F.file; within = omega (arith, F.within); part = part_start _ _ F.room }

  abbrev σ : Settings
  σ = F.settings

  module _ {new : List ℕ} {at w i : ℕ} (P : Writing F new at w i) where
    abbrev left : Block
    left = P.walk.rest.block

    -- A TURN

    -- the first statement's bytes, and those of what follows it
    abbrev first : List ℕ
    first = block_bytes (first_out σ w left)

    abbrev rest : List ℕ
    rest = block_bytes (padded σ (first_waits w left) (after_first left) k)

    split : Part (block_bytes (padded σ 0 F.file.block k)) (first ++ rest) old new at
    split = rw (first_bytes σ w left k) at P.part

    module _ (l : i < to) (o : closes_block (kind_at s i) ≡ false) where
      abbrev step_fits : StatementFits s i to w pads (lent new at)
      step_fits = record { settings = σ; statement = walk_at P.walk l o; few = F.few; kept = F.kept; within = omega (arith, P.within); room = part_fits first rest split }

      pub statement_fits : StatementFits s i to w pads (lent new at)
      statement_fits = step_fits

      module _ {ys : List ℕ} {r : Written} (S : StatementWritten s i to w pads (lent new at) ys r) where
        step : WritesStatement σ i w left (lent new at) ys r
        step = S.right step_fits

        -- a statement has a record
        pub writing_on : i < r.next
        writing_on = walk_on P.walk l o step.goes

        pub writing_next : Writing F (back new at ys) (at + r.bytes) r.wait r.next
        writing_next = record {
          walk = walk_next P.walk l o step.goes;
          within = omega (arith, P.within, step.waits, waits_less σ w left, time_first σ left);
          part = rw step.waits (wrote_next first split step.wrote);
        }

    -- THE END

    module _ (h : (to ≤ i) ⊎ (closes_block (kind_at s i) ≡ true)) where
      none_left : (to ≤ i) ⊎ (closes_block (kind_at s i) ≡ true) → left ≡ nil
      none_left (inl l) = none_ended P.walk l
      none_left (inr c) = none_closed P.walk c

      last : Part (block_bytes (padded σ 0 F.file.block k)) (skip_bytes (w + k)) old new at
      last = subst (λ (b : Block). Part (block_bytes (padded σ 0 F.file.block k)) (block_bytes (padded σ w b k)) old new at) (none_left h) P.part

      pub last_fits : length (skip_bytes (w + k)) ≤ length (lent new at)
      last_fits = part_fits_last last

      module _ {ys : List ℕ} {n : ℕ} (W : Wrote (skip_bytes (w + k)) (lent new at) ys n) where
        pub last_room : at + n ≤ length old
        last_room = wrote_room last W

        pub writing_end : WritesBlock F.settings from k F.file.block old (back new at ys) (record { next = i; bytes = at + n; wait = 0 })
        writing_end = record { wrote = wrote_last last W; goes = walk_end P.walk (none_left h) }
