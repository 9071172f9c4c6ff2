-- Writing a statement that opens no block: a SKIP, or a step with its record.
use Prim.Native.Nat.{ℕ, ◌+◌, ◌≤◌}
use native.Mathlib.Omega.{arith}
use mathlib.Core.Path.{◌≡◌, refl, ap, sym, subst, ◌∙◌}
use mathlib.Core.List.{List, ◌++◌}
use lib.ListN.{length}
use Rattle.model.specs.declared.Settings.{Settings}
use Rattle.model.specs.Records.{Rec, record_at, SKIP, IF, TIMES, over}
use Rattle.model.specs.Trees.{Act, Block, nil, act, ◌⧺◌, act_rec}
use Rattle.model.specs.{Times.ticks, Layout.before, Layout.idles}
use Rattle.records.specs.declared.Record.{Record}
use Rattle.records.specs.{Records.record_of, Blocks.skip_bytes}
use Rattle.records.proofs.Blocks.{waiting_bytes, act_bytes}
use Rattle.reading.proofs.FirstKinds.{IsAct}
use Rattle.timing.specs.Times.{step_ticks}
use Rattle.placing.specs.declared.clock.State.{State}
use Rattle.layout.specs.declared.measure.Passage.{Passage}
use Rattle.placing.specs.Merging.{waits}
use Rattle.layout.specs.{Measured.StatementPassed, Meetings.meetings, Meetings.Holds}
use Rattle.placing.specs.Placed.{bytes_of, Room, Lays, step_bytes, StepLaid}
use Rattle.layout.specs.Written.{LaidFits, StatementFits, LaysTo, StatementLaid}
use Rattle.placing.proofs.Settling.{bytes_settled}
use Rattle.layout.proofs.{Noting.plain_idles, Noting.plain_step, Passing.passed}
use Rattle.layout.proofs.PassingSteps.{LaidAs, laid_every, skip_as, is_act, act_lasts, act_as}

-- A STEP

-- the bytes of an act and of what stands before it
pub step_bytes_is : (σ : Settings) (s : State) (d : ℕ) (p : Act) → bytes_of s (before σ s.tick d ⧺ act p nil) ≡ step_bytes σ s d (act_rec p)
step_bytes_is σ s d p =
    let w = waits s.wait (before σ s.tick d) in
    bytes_settled s.wait (before σ s.tick d) (act p nil)
    ∙ ap (λ (bs : List ℕ). bytes_of s (before σ s.tick d) ++ bs) (waiting_bytes w (act p nil) ∙ ap (λ (bs : List ℕ). skip_bytes w ++ bs) (act_bytes p))

module _ (σ : Settings) {s : State} (d : ℕ) {x : Rec} (p : Act) (e : x ≡ act_rec p) where
  pub step_fits : {out : List ℕ} → Room (before σ s.tick d ⧺ act p nil) s out → length (step_bytes σ s d x) ≤ length out
  step_fits {out} R = subst (λ (bs : List ℕ). length bs ≤ length out) (step_bytes_is σ s d p ∙ ap (step_bytes σ s d) (sym e)) R.room

  pub step_lays : {old new : List ℕ} {r : State} → ticks σ p ≡ d → StepLaid σ s d x old new r → Lays σ (before σ s.tick d ⧺ act p nil) s old new r
  step_lays {old} h L = record {
    after = L.state.after p h;
    wrote = L.wrote ∙ ap (λ (bs : List ℕ). over bs old) (ap (step_bytes σ s d) e ∙ sym (step_bytes_is σ s d p));
  }

-- A STATEMENT

-- what is laid has passed
pub laid_passed : {s : List ℕ} {i to : ℕ} {σ : Settings} {at : State} {k : ℕ} {old new : List ℕ} {r : Passage} → StatementLaid s i to σ at k old new r → StatementPassed s i to σ at r
laid_passed L = record { right = λ b B. passed (L.right b B).lays.after (L.right b B).goes }

module _ {s : List ℕ} {i to : ℕ} {σ : Settings} {from : State} {k : ℕ} {table old : List ℕ} (F : StatementFits s i to σ from k table old) where
  -- where it is laid as c
  module _ {c : Block} {n : ℕ} (A : LaidAs F.statement c n) where
    pub fits_as : LaidFits σ c from old
    fits_as = subst (λ (x : Block). LaidFits σ x from old) A.same F.fits

    pub holds_as : Holds (meetings σ c from.tick) k table
    holds_as = subst (λ (x : Block). Holds (meetings σ x from.tick) k table) A.same F.holds

    pub answered_as : {new : List ℕ} {r : Passage} → LaysTo σ c (i + n) k from old new r → StatementLaid s i to σ from k old new r
    answered_as {new} {r} L = record { right = laid_every (λ (d : Block) (m : ℕ). LaysTo σ d (i + m) k from old new r) A L }

  -- the record at i
  module _ {x : Record} (e : record_of x ≡ record_at s i) where
    -- a SKIP
    module _ (h : x.kind ≡ SKIP) where
      pub skip_fits : LaidFits σ (idles σ x.count from.tick) from old
      skip_fits = fits_as (skip_as F.statement e h)

      pub skip_laid : {new : List ℕ} {r : State} → Lays σ (idles σ x.count from.tick) from old new r
          → StatementLaid s i to σ from k old new (record { state = r; next = i + 1; ifs = k })
      skip_laid L = answered_as (skip_as F.statement e h)
          (record { lays = L; goes = refl; ifs = omega (arith, ap length (plain_idles σ x.count from.tick from.tick)) })

    -- any other is a step
    module _ (no : x.kind ≡ SKIP → ⊥) (m : x.kind ≡ IF → ⊥) (l : x.kind ≡ TIMES → ⊥) {d : ℕ} (h : d ≡ step_ticks σ (record_of x)) where
      abbrev the : IsAct (record_at s i) F.statement.here.file.block
      the = is_act F.statement e no m l

      pub act_fits : length (step_bytes σ from d (record_of x)) ≤ length old
      act_fits = step_fits σ d the.act_of (e ∙ the.same) (fits_as (act_as F.statement e no m l h)).room

      pub act_laid : {new : List ℕ} {r : State} → StepLaid σ from d (record_of x) old new r
          → StatementLaid s i to σ from k old new (record { state = r; next = i + 1; ifs = k })
      act_laid L =
          answered_as (act_as F.statement e no m l h)
          (record {
            lays = step_lays σ d the.act_of (e ∙ the.same) (act_lasts F.statement e no m l ∙ sym h) L;
            goes = refl;
            ifs = omega (arith, ap length (plain_step σ d the.act_of from.tick));
          })
