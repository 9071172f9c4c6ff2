-- The sum over a range of records: what has been counted and what is left, turn by turn.
use Prim.Native.Nat.{ℕ, ◌+◌, ◌-◌, ◌≤◌, ◌<◌}
use native.Mathlib.Omega.{arith}
use mathlib.Core.Path.{◌≡◌, ap, subst}
use mathlib.Core.{Bool.true, Bool.false, List.List}
use Rattle.model.specs.declared.{Form.Form, Settings.Settings}
use Rattle.model.specs.{Records.kind_at, Trees.Block, Trees.nil, Trees.size, Trees.depth, Times.time}
use Rattle.reading.specs.{Closing.closes_block, Walks.Walk}
use Rattle.reading.specs.Ranges.{InFile, Ranged, Fills, first_size}
use Rattle.reading.proofs.Standing.{standing_at}
use Rattle.reading.proofs.Walking.{walk_start, none_closed, none_ended, walk_end, walk_at, walk_next}
use Rattle.std.specs.Prelude.{Option, None, Some}
use Rattle.timing.specs.declared.blocks.Step.{Step}
use Rattle.timing.specs.Times.{Gives}
use Rattle.timing.specs.Blocks.{first_time, Passes, StatementTimes, SequenceTimes, BlockTimes}
use Rattle.timing.proofs.Given.{gives_ticks, gives_over}
use Rattle.timing.proofs.Firsts.{time_first}

-- a walk over a block of which sum ticks have been counted
pub record Rest {f : Form} {s : List ℕ} {from to : ℕ} (F : InFile f s from to) (σ : Settings) (i sum : ℕ) : Type 0 where
  pub walk : Walk F i
  pub sums : time σ F.block ≡ sum + time σ walk.rest.block

-- of every block that stands at `from`, sum ticks have been counted up to i
pub record Counted (s : List ℕ) (from to d : ℕ) (σ : Settings) (i sum : ℕ) : Type 0 where
  pub ranged : Ranged s i to
  pub on : from ≤ i
  pub small : sum ≤ σ.period
  pub rest : (f : Form) (F : InFile f s from to) → depth F.block ≤ d → Rest F σ i sum

pub counted_start : {s : List ℕ} {from to d : ℕ} {σ : Settings} → Ranged s from to → Counted s from to d σ from 0
counted_start R = record { ranged = R; on = omega arith; small = omega arith; rest = λ f F l. record { walk = walk_start F; sums = omega arith } }

module _ {s : List ℕ} {from to d : ℕ} {σ : Settings} {i sum : ℕ} (C : Counted s from to d σ i sum) where
  -- nothing is left
  none_left : ((f : Form) (F : InFile f s from to) (W : Walk F i) → W.rest.block ≡ nil)
      → SequenceTimes s from to d σ (Some (record { ticks = sum; next = i }))
  none_left h = record {
    inside = (C.on, C.ranged.order);
    right = λ f F l.
        let R = C.rest f F l in
        let e = h f F R.walk in
        let all : time σ F.block ≡ sum = omega (arith, R.sums, ap (time σ) e) in
        (all, omega (arith, C.small), walk_end R.walk e);
  }

  pub counted_closed : closes_block (kind_at s i) ≡ true → SequenceTimes s from to d σ (Some (record { ticks = sum; next = i }))
  counted_closed k = none_left (λ f F W. none_closed W k)

  pub counted_all : to ≤ i → SequenceTimes s from to d σ (Some (record { ticks = sum; next = i }))
  counted_all l = none_left (λ f F W. none_ended W l)

  -- or too much
  above : ((f : Form) (F : InFile f s from to) → depth F.block ≤ d → σ.period < time σ F.block) → SequenceTimes s from to d σ None
  above h = record { inside = tt; right = h }

  module _ (l : i < to) (k : closes_block (kind_at s i) ≡ false) where
    step : {r : Option Step} (S : StatementTimes s i to d σ r) {f : Form} {F : InFile f s from to} (h : depth F.block ≤ d) (R : Rest F σ i sum)
        → Passes σ (first_time σ R.walk.rest.block) (i + first_size R.walk.rest.block) r
    step S {f} h R = S.right f (walk_at R.walk l k) (omega (arith, R.walk.shallow))

    -- a statement above the period is too much
    pub counted_over : StatementTimes s i to d σ None → SequenceTimes s from to d σ None
    counted_over S = above (λ f F h.
        let R = C.rest f F h in
        let o : σ.period < first_time σ R.walk.rest.block = step S h R in
        omega (arith, o, R.sums, time_first σ R.walk.rest.block))

    module _ {r : Step} (S : StatementTimes s i to d σ (Some r)) where
      -- its ticks are counted, and the range goes on after it
      counted : (f : Form) (F : InFile f s from to) → depth F.block ≤ d → Rest F σ r.next (sum + r.ticks)
      counted f F h =
          let R = C.rest f F h in
          let b = R.walk.rest.block in
          let p : Passes σ (first_time σ b) (i + first_size b) (Some r) = step S h R in
          record { walk = walk_next R.walk l k p.2; sums = omega (arith, p.0, R.sums, time_first σ b) }

      pub counted_next : r.ticks ≤ σ.period - sum → Counted s from to d σ r.next (sum + r.ticks)
      counted_next h = record {
        ranged = record { order = S.inside.1; inside = C.ranged.inside };
        on = omega (arith, C.on, S.inside.0);
        small = omega (arith, C.small);
        rest = counted;
      }

      pub counted_past : σ.period - sum < r.ticks → SequenceTimes s from to d σ None
      counted_past x = above (λ f F h. let R = counted f F h in omega (arith, R.sums))

-- a block that fills a range stands at its start
module _ {s : List ℕ} {i to d : ℕ} (R : Ranged s i to) where
  there : {f : Form} {b : Block} → Fills f s i to d b → InFile f s i to
  there {b = b} F = record {
    block = b;
    stands = standing_at b F.stands F.of_form (omega (arith, F.ends)) (λ h. absurd (omega (arith, F.ends)));
    inside = R.inside;
  }

module _ {s : List ℕ} {i to d : ℕ} {σ : Settings} (R : Ranged s i to) where
  pub fills_over : SequenceTimes s i to d σ None → BlockTimes s i to d σ None
  unfolding there
  fills_over A = record { right = λ f b F. gives_over σ.period (time σ b) (A.right f (there R F) F.shallow) }

  pub fills_times : {r : Step} → SequenceTimes s i to d σ (Some r) → BlockTimes s i to d σ (Some r.ticks)
  unfolding there
  fills_times {r} A = record {
    right = λ f b F.
        let p : Passes σ (time σ b) (i + size b) (Some r) = A.right f (there R F) F.shallow in
        subst (λ (t : ℕ). Gives σ.period (time σ b) (Some t)) p.0 (gives_ticks σ.period (time σ b) p.1);
  }
