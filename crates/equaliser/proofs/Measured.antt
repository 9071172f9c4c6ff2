-- The size of a block: what has been measured and what is left, turn by turn.
use Prim.Native.Nat.{ℕ, ◌+◌, ◌-◌, ◌^◌, ◌≤◌, ◌<◌}
use native.Mathlib.Omega.{arith}
use mathlib.Core.Path.{◌≡◌, ap, sym, subst, ◌∙◌}
use mathlib.Core.{Bool.true, Bool.false, List.List}
use Rattle.model.specs.declared.Settings.{Settings}
use Rattle.model.specs.declared.Form.TheVariants.{Task}
use Rattle.model.specs.{Records.kind_at, Times.time}
use Rattle.model.specs.Trees.{Block, nil, size}
use Rattle.reading.specs.{Closing.closes_block, Ranges.InFile, Ranges.after_first, Walks.Walk}
use Rattle.reading.proofs.Walking.{every, walk_start, none_closed, none_ended, walk_end, walk_at, walk_on, walk_next}
use Rattle.std.specs.Prelude.{Option, None, Some}
use Rattle.timing.specs.Blocks.{first_time}
use Rattle.timing.proofs.Firsts.{time_first}
use Rattle.equaliser.specs.declared.measure.Extent.{Extent}
use Rattle.equaliser.specs.{declared.pads.Pad.Pad, Merged.padded, Pads.Kept, Pads.Same}
use Rattle.equaliser.specs.Sizes.{BlockAsks, IsBlock, BlockSize, StatementAsks, IsStatement, StatementDone, StatementSize}
use Rattle.equaliser.proofs.Keeping.{before_none, before_on, kept_none, kept_same, kept_on}
use Rattle.equaliser.proofs.Merged.{waits_less, size_first as padded_size, padded_small}

-- the block from `from` on has been read up to e.next: e is what it took and became so far
pub record Measured (s : List ℕ) (from to : ℕ) (σ : Settings) (old new : List Pad) (e : Extent) : Type 0 where
  pub whole : InFile Task s from to
  pub few : to ≤ 256
  pub walk : Walk whole e.next
  pub sums : time σ whole.block ≡ e.ticks + time σ walk.rest.block
  pub counts : (k : ℕ) → size (padded σ 0 whole.block k) ≡ e.records + size (padded σ e.wait walk.rest.block k)
  pub waits : e.wait ≤ e.ticks
  pub small : e.ticks ≤ σ.period
  pub kept : Kept σ s to new from e.next
  pub before : Same 0 from old new

pub measured_start : {s : List ℕ} {from to : ℕ} (σ : Settings) {pads : List Pad} → BlockAsks s from to
    → Measured s from to σ pads pads (record { ticks = 0; records = 0; wait = 0; next = from })
measured_start {from = from} σ {pads} A = record {
  whole = A.file;
  few = A.few;
  walk = walk_start A.file;
  sums = omega arith;
  counts = λ k. omega arith;
  waits = omega arith;
  small = omega arith;
  kept = kept_none from;
  before = before_none from pads;
}

module _ {s : List ℕ} {from to : ℕ} {σ : Settings} {old new : List Pad} {e : Extent} (C : Measured s from to σ old new e) where
  abbrev all : Block
  all = C.whole.block

  abbrev rest : Block
  rest = C.walk.rest.block

  pub measured_few : e.records ≤ 1025
  measured_few = omega (arith, C.counts 0, padded_small σ all 0 0, C.whole.stands.ends, C.few)

  -- what holds of the block that is read holds of every block that stands there
  sized : {r : Option Extent} {t : List Pad} → IsBlock s from to σ t all r → Same 0 from old t → BlockSize s from to σ old t r
  sized {r} {t} h b = record { right = λ F. every (λ (x : Block). IsBlock s from to σ t x r) C.whole h F.block F.stands; before = b }

  -- THE END

  none_left : rest ≡ nil → e.ticks < 2 ^ 32 → BlockSize s from to σ old new (Some e)
  none_left n short =
      let took : time σ all ≡ e.ticks = omega (arith, C.sums, ap (time σ) n) in
      sized (
        took,
        omega (arith, C.small),
        record {
          goes = walk_end C.walk n;
          counts = λ k. C.counts k ∙ ap (λ (b : Block). e.records + size (padded σ e.wait b k)) n;
          small = record { few = measured_few; short = omega (arith, C.waits) };
          kept = subst (λ (j : ℕ). Kept σ s to new from j) (walk_end C.walk n) C.kept;
        },
      ) C.before

  pub measured_all : to ≤ e.next → e.ticks < 2 ^ 32 → BlockSize s from to σ old new (Some e)
  measured_all h = none_left (none_ended C.walk h)

  pub measured_closed : closes_block (kind_at s e.next) ≡ true → e.ticks < 2 ^ 32 → BlockSize s from to σ old new (Some e)
  measured_closed h = none_left (none_closed C.walk h)

  -- A TURN

  module _ (l : e.next < to) (o : closes_block (kind_at s e.next) ≡ false) where
    pub measured_asks : e.ticks < 2 ^ 32 → StatementAsks s e.next to e.wait
    measured_asks short = record { statement = walk_at C.walk l o; few = C.few; short = omega (arith, C.waits) }

    module _ {next : List Pad} {z : Option Extent} (S : StatementSize s e.next to σ e.wait new next z) where
      step : IsStatement s e.next to σ e.wait next rest z
      step = S.right (walk_at C.walk l o)

      turn_before : Same 0 from old next
      turn_before = before_on C.walk.on C.before S.before

    -- a statement above the period is too much
    pub measured_over : {next : List Pad} → StatementSize s e.next to σ e.wait new next None → BlockSize s from to σ old next None
    measured_over S =
        let over : σ.period < first_time σ rest = step S in
        sized (omega (arith, over, C.sums, time_first σ rest)) (turn_before S)

    module _ {next : List Pad} {r : Extent} (S : StatementSize s e.next to σ e.wait new next (Some r)) where
      told : (first_time σ rest ≡ r.ticks) × (first_time σ rest ≤ σ.period) × StatementDone s e.next to σ e.wait next rest r
      told = step S

      done : StatementDone s e.next to σ e.wait next rest r
      done = told.2

      pub measured_past : σ.period - e.ticks < r.ticks → BlockSize s from to σ old next None
      measured_past h = sized (omega (arith, C.sums, C.small, h, told, time_first σ rest)) (turn_before S)

      -- the range grows shorter
      pub measured_on : e.next < r.next
      measured_on = walk_on C.walk l o done.goes

      -- it is measured, and the block goes on after it
      pub measured_next : r.ticks ≤ σ.period - e.ticks
          → Measured s from to σ old next (record { ticks = e.ticks + r.ticks; records = e.records + r.records; wait = r.wait; next = r.next })
      measured_next h = record {
        whole = C.whole;
        few = C.few;
        walk = walk_next C.walk l o done.goes;
        sums = omega (arith, C.sums, told, time_first σ rest);
        counts = λ k. omega (arith, C.counts k, padded_size σ e.wait rest k, done.counts, ap (λ (x : ℕ). size (padded σ x (after_first rest) k)) done.waits);
        waits = omega (arith, done.waits, waits_less σ e.wait rest, told, C.waits);
        small = omega (arith, C.small, h);
        kept = kept_on (kept_same C.kept S.before (omega arith) (omega arith))
            (subst (λ (j : ℕ). Kept σ s to next e.next j) (sym done.goes) done.kept);
        before = turn_before S;
      }
