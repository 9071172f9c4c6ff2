-- Where the moves of laying out lead: over ticks of SKIP, over a step, and past the commands of a window.
use Prim.Native.Nat.{ℕ, ◌+◌, ◌*◌, ◌-◌, ◌%◌, ◌≤◌, ◌<◌}
use native.Mathlib.{Omega.arith, Nat.add-mod_right}
use mathlib.Core.Path.{◌≡◌, refl, ap, ap₂, ◌∙◌}
use borrow.Author.Tests.{eq-eqb, ne_eqb}
use Rattle.model.specs.declared.Settings.{Settings}
use Rattle.model.specs.Trees.{Act, beat, save, nil, skip, act}
use Rattle.model.specs.{Times.ticks, Times.longest, Layout.commands, Layout.before}
use Rattle.theory.specs.Windows.{round}
use Rattle.records.specs.Blocks.{skip_records}
use Rattle.records.proofs.Blocks.{size_waiting}
use Rattle.placing.specs.declared.clock.State.{State}
use Rattle.placing.specs.States.{cap, Shows, Laying, After, Readied, Stepped}
use Rattle.placing.proofs.{Going.after_nil, Going.after-⧺, Going.after_alike, Ticking.commands_due, Ticking.before_waits, Ticking.before_none}

-- s moved k ticks on, while w ticks of SKIP wait and n records are laid
abbrev pub on : State → ℕ → ℕ → ℕ → State
on s k w n = record { tick = s.tick + k; ticks_left = s.ticks_left - k; windows_left = s.windows_left; wait = w; records = n }

-- one window and those after it
one_more : (h v : ℕ) → 1 ≤ v → h + h * (v - 1) ≡ h * v
one_more h v l = let e : v - 1 + 1 ≡ v = omega arith in omega (arith, ap (λ (x : ℕ). h * x) e)

module _ {σ : Settings} where
  -- no more ticks on than are left
  pub shows_on : {s r : State} (k : ℕ) → Shows σ s → r.tick ≡ s.tick + k → r.ticks_left + k ≡ s.ticks_left → r.windows_left ≡ s.windows_left → r.wait ≤ r.tick
      → r.records ≤ 5462 → Shows σ r
  shows_on {s} {r} k S t l w h f =
      let e : r.tick + r.ticks_left ≡ s.tick + s.ticks_left = omega arith in
      record {
        below = omega (arith, S.below);
        fewer = omega (arith, S.fewer);
        bound = ap (λ (x : ℕ). x % σ.window) e ∙ S.bound;
        round = ap₂ (λ (x y : ℕ). (x + σ.window * y) % round σ) e w ∙ S.round;
        waited = h;
        few = f;
      }

  -- a SKIP, and a step that waits for nothing
  pub after_skip : {s : State} (k : ℕ) → Shows σ s → k ≤ s.ticks_left → After σ (skip k nil) s (on s k (s.wait + k) s.records)
  after_skip k S l = record {
    shows = shows_on k S refl (omega arith) refl (omega (arith, S.waited)) S.few;
    tick = omega arith;
    wait = refl;
    records = omega (arith, S.few);
  }

  pub after_act : {s : State} (p : Act) (d k n : ℕ) → ticks σ p ≡ d → Shows σ s → d ≤ s.ticks_left → k ≡ skip_records s.wait → n ≡ cap (s.records + (k + 1))
      → After σ (act p nil) s (on s d 0 n)
  after_act {s} p d k n x S l e f = record {
    shows = shows_on d S refl (omega arith) refl (omega arith) (omega arith);
    tick = omega arith;
    wait = refl;
    records = omega (arith, size_waiting s.wait (act p nil));
  }

  -- PAST THE COMMANDS

  -- q ticks of the next window are over, and the windows from there to the next SAVE are counted from its end
  shows_past : {s r : State} (q : ℕ) → Shows σ s → 1 ≤ q → r.tick ≡ s.tick + s.ticks_left + q → r.ticks_left + q ≡ σ.window → r.windows_left < σ.spacing
      → (s.tick + s.ticks_left + σ.window + σ.window * r.windows_left) % round σ ≡ 0 → r.wait ≡ 0 → r.records ≤ 5462 → Shows σ r
  shows_past {s} {r} q S p t l w e z f =
      let u : r.tick + r.ticks_left ≡ s.tick + s.ticks_left + σ.window = omega arith in
      record {
        below = omega arith;
        fewer = w;
        bound = ap (λ (x : ℕ). x % σ.window) u ∙ add-mod_right (s.tick + s.ticks_left) σ.window ∙ S.bound;
        round = ap (λ (x : ℕ). (x + σ.window * r.windows_left) % round σ) u ∙ e;
        waited = omega arith;
        few = f;
      }

  -- a BEAT and a SAVE, or a BEAT alone
  module _ {s : State} (y : Laying σ s) (k n : ℕ) (e : k ≡ skip_records (s.wait + s.ticks_left)) where
    pub past_save : s.windows_left ≡ 0 → n ≡ cap (s.records + (k + 2)) →
        let r : State = record {
          tick = s.tick + s.ticks_left + σ.beat + σ.save;
          ticks_left = σ.window - σ.beat - σ.save;
          windows_left = σ.spacing - 1;
          wait = 0;
          records = n;
        } in
        (After σ (skip s.ticks_left (commands σ (s.tick + s.ticks_left))) s r) × (longest σ ≤ r.ticks_left)
    past_save w f =
        let t = s.tick + s.ticks_left in
        let x = one_more σ.window σ.spacing (omega arith) in
        let v : t + σ.window + σ.window * (σ.spacing - 1) ≡ t + σ.window * s.windows_left + round σ = rw w (omega arith) in
        let h = ap (λ (x : ℕ). x % round σ) v ∙ add-mod_right (t + σ.window * s.windows_left) (round σ) ∙ y.shows.round in
        rw (commands_due y.settings y.shows, eq-eqb s.windows_left 0 w) (
          record {
            shows = shows_past (σ.beat + σ.save) y.shows (omega arith) (omega arith) (omega arith) (omega arith) h refl (omega arith);
            tick = omega arith;
            wait = refl;
            records = omega (arith, size_waiting (s.wait + s.ticks_left) (act (beat 1) (act (save 0) nil)));
          },
          omega arith,
        )

    pub past_beat : (s.windows_left ≡ 0 → ⊥) → n ≡ cap (s.records + (k + 1)) →
        let r : State = record { tick = s.tick + s.ticks_left + σ.beat; ticks_left = σ.window - σ.beat; windows_left = s.windows_left - 1; wait = 0; records = n } in
        (After σ (skip s.ticks_left (commands σ (s.tick + s.ticks_left))) s r) × (longest σ ≤ r.ticks_left)
    past_beat w f =
        let t = s.tick + s.ticks_left in
        let x = one_more σ.window s.windows_left (omega arith) in
        let v : t + σ.window + σ.window * (s.windows_left - 1) ≡ t + σ.window * s.windows_left = omega arith in
        let h = ap (λ (x : ℕ). x % round σ) v ∙ y.shows.round in
        rw (commands_due y.settings y.shows, ne_eqb s.windows_left 0 w) (
          record {
            shows = shows_past σ.beat y.shows (omega arith) (omega arith) (omega arith) (omega arith) h refl (omega arith);
            tick = omega arith;
            wait = refl;
            records = omega (arith, size_waiting (s.wait + s.ticks_left) (act (beat 1) nil));
          },
          omega arith,
        )

  -- BEFORE A STEP, AND OVER IT

  module _ {s : State} (y : Laying σ s) (d : ℕ) where
    pub readied_past : {r : State} → s.ticks_left < d → d ≤ longest σ → After σ (skip s.ticks_left (commands σ (s.tick + s.ticks_left))) s r → longest σ ≤ r.ticks_left
        → Readied σ s d r
    readied_past l h A m = record { after = after_alike (before_waits y.settings y.shows d l h) A; room = omega arith }

    pub readied_here : 1 ≤ d → d ≤ s.ticks_left → Readied σ s d s
    readied_here p l = record { after = rw (before_none y.settings y.shows d p l) (after_nil y.shows); room = l }

  pub stepped_on : {s u : State} (d k n : ℕ) → Readied σ s d u → k ≡ skip_records u.wait → n ≡ cap (u.records + (k + 1)) → Stepped σ s d (on u d 0 n)
  stepped_on {s} d k n R e f = record {
    after = λ p x. after-⧺ (before σ s.tick d) (act p nil) R.after (after_act p d k n x R.after.shows R.room e f);
  }
