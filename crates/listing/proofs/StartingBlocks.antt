-- The starts of a block, statement by statement.
use Prim.Native.Nat.{ℕ, ◌+◌, ◌≤◌, ◌<◌}
use native.Mathlib.Omega.{arith}
use mathlib.Core.Path.{◌≡◌, refl, ap, sym, ◌∙◌}
use mathlib.Core.{Bool.true, Bool.false, Bool.false≢true, List.List, List.[], List.◌∷◌}
use lib.{ListN.length, ListN.set as set_at, Seq.sets, Seq.length-sets}
use Rattle.model.specs.declared.Form.TheVariants.{Laid}
use Rattle.model.specs.declared.Settings.{Settings}
use Rattle.model.specs.Records.{Rec, kind_at, record_at, IF}
use Rattle.model.specs.{Limits.most_ticks, Times.time, Listing.start_ticks}
use Rattle.model.specs.Trees.{Block, nil, skip, act, branch, while, times, size}
use Rattle.reading.specs.{Closing.closes_block, Walks.Walk}
use Rattle.reading.specs.Ranges.{Stands, first_size, after_first}
use Rattle.reading.proofs.FirstKinds.{kind_is}
use Rattle.reading.proofs.Walking.{every, every_of, block, some, walk_start, none_closed, none_ended, walk_end, walk_at, walk_on, walk_next}
use Rattle.timing.specs.{Times.step_ticks, Blocks.first_time}
use Rattle.timing.proofs.Firsts.{time_first, act_ticks}
use Rattle.listing.specs.declared.starts.Place.{Place}
use Rattle.listing.specs.Starts.{first_starts, Stored, Entered, Statement, BlockStarted, StatementStarted}
use Rattle.records.proofs.Stores.{stored_on}
use Rattle.listing.proofs.Starting.{first_length, starts_first}

abbrev pub place : ℕ → ℕ → Place
place t j = record { tick = t; next = j }

-- A STATEMENT

module _ {s : List ℕ} {i to : ℕ} {σ : Settings} {t : ℕ} {out : List ℕ} (S : Statement s i to σ t out) where
  -- what holds of the block that was asked about, which is b, holds of every block at its place
  pub told : {new : List ℕ} {r : Place} (b : Block) → block S.here ≡ b → Stored (first_starts σ b t) (first_time σ b) (first_size b) i t out new r
      → StatementStarted s i to σ t out new r
  told {new} {r} b e A = record { right = every_of (λ (x : Block). Stored (first_starts σ x t) (first_time σ x) (first_size x) i t out new r) S.here.file e A }

  -- a record that opens no block: a laid file has no loop
  record Plain (b : Block) : Type 0 where
    starts_there : first_starts σ b t ≡ t ∷ []
    lasts : step_ticks σ (record_at s i) ≡ first_time σ b
    alone : first_size b ≡ 1

  plain : (b : Block) → Stands Laid s i to b → 1 ≤ first_size b → (kind_at s i ≡ IF → ⊥) → Plain b
  plain nil B h x = absurd (omega arith)
  plain (skip n b) B h x = record { starts_there = refl; lasts = ap (step_ticks σ) B.fills.stands.0; alone = refl }
  plain (act p b) B h x = record { starts_there = refl; lasts = ap (step_ticks σ) B.fills.stands.0 ∙ act_ticks σ p; alone = refl }
  plain (branch q a d b) B h x = absurd (x (kind_is s i B.fills.stands.0.is))
  plain (while q n a b) B h x = absurd (false≢true B.fills.of_form.0.kind)
  plain (times q n a b) B h x = absurd (false≢true B.fills.of_form.0.kind)

  module _ {r : Rec} (h : r ≡ record_at s i) (x : r.kind ≡ IF → ⊥) {d : ℕ} (l : d ≡ step_ticks σ r) where
    is_plain : Plain (block S.here)
    is_plain = plain (block S.here) S.here.file.stands (some S.here) (λ e. x (sym (kind_is s i (sym h)) ∙ e))

    takes : d ≡ first_time σ (block S.here)
    takes = l ∙ ap (step_ticks σ) h ∙ is_plain.lasts

    pub step_early : t + d ≤ most_ticks
    step_early = omega (arith, takes, time_first σ (block S.here), S.early)

    pub step_started : StatementStarted s i to σ t out (set_at out i t) (place (t + d) (i + 1))
    step_started =
        told (block S.here) refl (record {
          table = ap (sets out i) (sym is_plain.starts_there);
          tick = ap (λ (m : ℕ). t + m) takes;
          next = omega (arith, is_plain.alone);
        })

-- THE TURNS OF THE LOOP

-- of the block at `from`, which starts at tick t₀, the records from `next` on are left at tick t
pub record Starting (s : List ℕ) (from to : ℕ) (σ : Settings) (t₀ : ℕ) (old w : List ℕ) (t next : ℕ) : Type 0 where
  pub all : Entered s from to σ t₀ old
  pub walk : Walk all.file next
  pub kept : length w ≡ length old
  pub lasts : t + time σ walk.rest.block ≡ t₀ + time σ all.file.block
  pub same : sets w next (start_ticks σ walk.rest.block t) ≡ sets old from (start_ticks σ all.file.block t₀)

pub starting_start : {s : List ℕ} {from to : ℕ} {σ : Settings} {t : ℕ} {out : List ℕ} → Entered s from to σ t out → Starting s from to σ t out out t from
starting_start E = record { all = E; walk = walk_start E.file; kept = refl; lasts = refl; same = refl }

module _ {s : List ℕ} {from to : ℕ} {σ : Settings} {t₀ : ℕ} {old w : List ℕ} {t next : ℕ} (P : Starting s from to σ t₀ old w t next) where
  abbrev left : Block
  left = P.walk.rest.block

  -- nothing is left
  ended : left ≡ nil → BlockStarted s from to σ t₀ old w (place t next)
  ended e = record {
    right = every (λ (x : Block). Stored (start_ticks σ x t₀) (time σ x) (size x) from t₀ old w (place t next)) P.all.file (record {
      table = ap (λ (b : Block). sets w next (start_ticks σ b t)) (sym e) ∙ P.same;
      tick = omega (arith, P.lasts, ap (time σ) e);
      next = walk_end P.walk e;
    });
  }

  pub starting_closed : closes_block (kind_at s next) ≡ true → BlockStarted s from to σ t₀ old w (place t next)
  starting_closed k = ended (none_closed P.walk k)

  pub starting_ended : to ≤ next → BlockStarted s from to σ t₀ old w (place t next)
  starting_ended l = ended (none_ended P.walk l)

  -- a statement is left
  module _ (l : next < to) (k : closes_block (kind_at s next) ≡ false) where
    pub statement_next : Statement s next to σ t w
    statement_next = record { here = walk_at P.walk l k; room = omega (arith, P.all.room, P.kept); early = omega (arith, P.all.early, P.lasts) }

    module _ {new : List ℕ} {r : Place} (S : StatementStarted s next to σ t w new r) where
      step : Stored (first_starts σ left t) (first_time σ left) (first_size left) next t w new r
      step = S.right left P.walk.rest.stands

      pub starting_on : next < r.next
      starting_on = walk_on P.walk l k step.next

      follows : sets new r.next (start_ticks σ (after_first left) r.tick) ≡ sets w next (start_ticks σ left t)
      follows =
          let f = P.walk.rest.stands.fills.of_form in
          let after = start_ticks σ (after_first left) (t + first_time σ left) in
          ap (λ (u : ℕ). sets new r.next (start_ticks σ (after_first left) u)) step.tick
          ∙ stored_on w next (first_starts σ left t) after step.table (omega (arith, first_length σ left t f, step.next)) refl
          ∙ ap (sets w next) (sym (starts_first σ left t f))

      pub starting_next : Starting s from to σ t₀ old new r.tick r.next
      starting_next = record {
        all = P.all;
        walk = walk_next P.walk l k step.next;
        kept = ap length step.table ∙ length-sets w next (first_starts σ left t) ∙ P.kept;
        lasts = omega (arith, P.lasts, step.tick, time_first σ left);
        same = follows ∙ P.same;
      }
