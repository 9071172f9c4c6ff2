-- Writing single ticks of SKIP, so many or up to a tick where a step ends: what is laid so far, and how a turn goes on.
use Prim.Native.Nat.{ℕ, ◌+◌, ◌-◌, ◌≤◌, ◌<◌}
use native.Mathlib.Omega.{arith}
use mathlib.Core.Path.{◌≡◌, ap, sym, subst}
use mathlib.Core.List.{List}
use lib.ListN.{length}
use Rattle.model.specs.declared.Settings.{Settings}
use Rattle.model.specs.Trees.{Block, nil, skip, ◌⧺◌}
use Rattle.model.specs.{Times.time, Times.longest, Layout.idles, Layout.fill}
use Rattle.laws.proofs.Trees.{⧺-assoc}
use Rattle.theory.proofs.Times.{time-⧺}
use Rattle.records.specs.Blocks.{Wrote}
use Rattle.records.proofs.Over.{Part, lent, back}
use Rattle.placing.specs.declared.clock.State.{State}
use Rattle.placing.specs.States.{Layable, Laying, After, Idled, Fillable}
use Rattle.placing.specs.Placed.{bytes_of, Room, Lays}
use Rattle.placing.proofs.Settling.{Alike, alike_eq, alike_sym, alike_trans}
use Rattle.placing.proofs.{Going.after-⧺, Ticking.commands_due}
use Rattle.placing.proofs.Windowing.{to_next, idles_left, idles_next, fill_less, fillable_next, fill_next, fill_last}
use Rattle.placing.proofs.Writing.{laid_bytes, Writing, writing_start, writing_at, writing_same, writing_room, writing_next, writing_end}

module _ {σ : Settings} {whole : Block} {from s : State} {old new : List ℕ} where
  -- a SKIP at the end writes nothing yet
  skipped : {k : ℕ} {r : State} → Writing σ whole (skip k nil) from s old new → Idled s k r → Lays σ whole from old new r
  skipped {k} {r} W I =
      let A = I.after σ W.after.shows in
      let z : laid_bytes from s ≡ laid_bytes from r = omega (arith, A.records, W.after.shows.few) in
      writing_end (record {
        done = W.done ⧺ skip k nil;
        same = alike_trans (alike_eq (⧺-assoc W.done (skip k nil) nil)) W.same;
        after = after-⧺ W.done (skip k nil) W.after A;
        room = W.room;
        part = subst (Part (bytes_of from whole) (bytes_of r nil) old new) z W.part;
      })

  -- the commands of the next window, and what follows them
  module _ (rest : Block) {n : ℕ} (W : Writing σ whole (to_next σ s ⧺ rest) from s old new) (e : n ≡ laid_bytes from s) where
    next_fits : length (bytes_of s (to_next σ s)) ≤ length (lent new n)
    next_fits = rw e (writing_room (to_next σ s) rest W).room

    next_laid : {r : State} {ys : List ℕ} {m : ℕ} → After σ (to_next σ s) s r → Wrote (bytes_of s (to_next σ s)) (lent new n) ys m
        → Writing σ whole rest from r old (back new n ys)
    next_laid {r} {ys} {m} A E =
        let E' = subst (λ (j : ℕ). Wrote (bytes_of s (to_next σ s)) (lent new j) ys m) e E in
        subst (λ (j : ℕ). Writing σ whole rest from r old (back new j ys)) (sym e) (writing_next (to_next σ s) rest W (record { after = A; wrote = E'.laid }))

-- SKIPS

-- of `count` ticks of SKIP from `from` on, those that are laid over old lead to s, and k are left
pub record WritingSkips (σ : Settings) (count : ℕ) (from s : State) (k : ℕ) (old new : List ℕ) : Type 0 where
  pub settings : Layable σ
  pub soon : s.tick + time σ (idles σ k s.tick) ≤ σ.period
  pub writing : Writing σ (idles σ count from.tick) (idles σ k s.tick) from s old new

module _ {σ : Settings} {count : ℕ} where
  pub skips_start : {s : State} {old : List ℕ} → Laying σ s → s.tick + time σ (idles σ count s.tick) ≤ σ.period → Room (idles σ count s.tick) s old
      → WritingSkips σ count s s count old old
  skips_start L l R = record { settings = L.settings; soon = l; writing = writing_start L.shows R }

  module _ {from s : State} {k : ℕ} {old new : List ℕ} (W : WritingSkips σ count from s k old new) where
    pub skips_laying : Laying σ s
    skips_laying = record { settings = W.settings; shows = W.writing.after.shows; within = omega (arith, W.soon) }

    pub skips_at : {n : ℕ} → n ≡ laid_bytes from s → n ≤ length new
    skips_at e = rw e (writing_at W.writing)

    -- more than are left in the window
    module _ (h : s.ticks_left < k) {r : State} (A : After σ (to_next σ s) s r) (p : longest σ ≤ r.ticks_left) where
      turn : Alike σ (to_next σ s ⧺ idles σ (k - s.ticks_left) r.tick) (idles σ k s.tick)
      turn = idles_next W.settings W.writing.after.shows A p k h

      split : Writing σ (idles σ count from.tick) (to_next σ s ⧺ idles σ (k - s.ticks_left) r.tick) from s old new
      split = writing_same W.writing (alike_sym turn)

      pub skips_less : σ.period + 1 - r.tick < σ.period + 1 - s.tick
      skips_less = omega (arith, W.soon, A.tick, ap (time σ) (commands_due W.settings W.writing.after.shows), W.settings.fits.positive.beat_lasts)

      module _ {n : ℕ} (e : n ≡ laid_bytes from s) where
        pub skips_fit : length (bytes_of s (to_next σ s)) ≤ length (lent new n)
        skips_fit = next_fits (idles σ (k - s.ticks_left) r.tick) split e

        pub skips_next : {ys : List ℕ} {m : ℕ} → Wrote (bytes_of s (to_next σ s)) (lent new n) ys m → WritingSkips σ count from r (k - s.ticks_left) old (back new n ys)
        skips_next E = record {
          settings = W.settings;
          soon = omega (arith, W.soon, A.tick, turn.lasts, time-⧺ σ (to_next σ s) (idles σ (k - s.ticks_left) r.tick));
          writing = next_laid (idles σ (k - s.ticks_left) r.tick) split e A E;
        }

    -- no more
    pub skips_laid : k ≤ s.ticks_left → {r : State} → Idled s k r → Lays σ (idles σ count from.tick) from old new r
    skips_laid h I = skipped (writing_same W.writing (alike_sym (idles_left W.settings W.writing.after.shows k h))) I

-- FILLING

-- of the ticks of SKIP from `from` up to e, those that are laid over old lead to s
pub record WritingFilling (σ : Settings) (e : ℕ) (from s : State) (old new : List ℕ) : Type 0 where
  pub can : Fillable σ s e
  pub writing : Writing σ (fill σ (e - from.tick) from.tick e) (fill σ (e - s.tick) s.tick e) from s old new

module _ {σ : Settings} {e : ℕ} where
  pub filling_start : {s : State} {old : List ℕ} → Fillable σ s e → Room (fill σ (e - s.tick) s.tick e) s old → WritingFilling σ e s s old old
  filling_start F R = record { can = F; writing = writing_start F.laying.shows R }

  module _ {from s : State} {old new : List ℕ} (W : WritingFilling σ e from s old new) where
    pub filling_at : {n : ℕ} → n ≡ laid_bytes from s → n ≤ length new
    filling_at h = rw h (writing_at W.writing)

    -- more than are left in the window
    module _ (h : s.ticks_left < e - s.tick) {r : State} (A : After σ (to_next σ s) s r) (p : longest σ ≤ r.ticks_left) where
      pub filling_less : e - r.tick < e - s.tick
      filling_less = fill_less W.can h A p

      cut : Writing σ (fill σ (e - from.tick) from.tick e) (to_next σ s ⧺ fill σ (e - r.tick) r.tick e) from s old new
      cut = writing_same W.writing (alike_sym (fill_next W.can h A p))

      module _ {n : ℕ} (z : n ≡ laid_bytes from s) where
        pub filling_fit : length (bytes_of s (to_next σ s)) ≤ length (lent new n)
        filling_fit = next_fits (fill σ (e - r.tick) r.tick e) cut z

        pub filling_next : {ys : List ℕ} {m : ℕ} → Wrote (bytes_of s (to_next σ s)) (lent new n) ys m → WritingFilling σ e from r old (back new n ys)
        filling_next E = record { can = fillable_next W.can h A p; writing = next_laid (fill σ (e - r.tick) r.tick e) cut z A E }

    -- no more
    pub filling_laid : e - s.tick ≤ s.ticks_left → {r : State} → Idled s (e - s.tick) r → Lays σ (fill σ (e - from.tick) from.tick e) from old new r
    filling_laid h I = skipped (writing_same W.writing (alike_sym (fill_last W.can h))) I
