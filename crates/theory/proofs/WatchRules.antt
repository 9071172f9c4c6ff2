-- One entry of the watcher's table: which entries have failed, and the rules of W-201 for a beat, a look and a reset.
use Prim.Native.Nat.{ℕ, zero, suc, ◌+◌, ◌-◌}
use native.Mathlib.Omega.{arith}
use mathlib.Core.Path.{◌≡◌, refl, ap, sym}
use mathlib.Core.Bool.{Bool, true, false, cond, true≢false}
use lib.{Dec.eqb, Dec.eqb-suc-zero, IntN.pos, IntN.pred_ℤ}
use Rattle.model.specs.declared.{Entry.Entry, Health.Health}
use Rattle.model.specs.declared.Health.TheVariants.{Waiting, Well, Suspect, Failed}
use Rattle.model.specs.Answers.{health_number}
use Rattle.model.specs.Watching.{count_of, told_by, health_of, has_failed, with_left, beaten, looked}
use Rattle.theory.specs.Watching.{Rules}

-- FAILED OR NOT

pub number_failed : (h : Health) → health_number h ≡ health_number Failed → h ≡ Failed
number_failed Waiting e = absurd (omega arith)
number_failed Well e = absurd (omega arith)
number_failed Suspect e = absurd (omega arith)
number_failed Failed e = refl

live_health : (h : Health) → (h ≡ Failed → ⊥) → has_failed h ≡ false
live_health Waiting live = refl
live_health Well live = refl
live_health Suspect live = refl
live_health Failed live = absurd (live refl)

-- an entry has failed where it waits no longer and nothing is left
pub failed_left : (e : Entry) → has_failed (health_of e) ≡ cond e.waiting false (eqb e.left 0)
failed_left e = go e.waiting e.left
  where
    go : (w : Bool) (l : ℕ) → has_failed (cond w Waiting (told_by (count_of l))) ≡ cond w false (eqb l 0)
    go true l = refl
    go false zero = refl
    go false (suc zero) = refl
    go false (suc (suc l)) = sym (eqb-suc-zero (suc l))

pub live : (e : Entry) → (health_of e ≡ Failed → ⊥) → has_failed (health_of e) ≡ false
live e = live_health (health_of e)

-- an entry that is not told by its count waits
pub told_waiting : (w : Bool) (l : ℕ) → cond w Waiting (told_by (count_of l)) ≡ Waiting → w ≡ true
told_waiting true l e = refl
told_waiting false zero e = let z : ◌≡◌ {A = ℕ} 0 1 = cc in absurd (omega arith)
told_waiting false (suc zero) e = let z : ◌≡◌ {A = ℕ} 0 1 = cc in absurd (omega arith)
told_waiting false (suc (suc l)) e = let z : ◌≡◌ {A = ℕ} 0 1 = cc in absurd (omega arith)

-- WHAT HAPPENS TO IT

pub live_beaten : (e : Entry) (v : ℕ) → has_failed (health_of e) ≡ false → beaten v e ≡ with_left (v + 2) e
live_beaten e v f = rw f

pub waiting_looked : (e : Entry) → e.waiting ≡ true → looked e ≡ e
waiting_looked e w = rw w

-- a look takes 1 off what is left: of a failed entry nothing is
pub counting_looked : (e : Entry) → e.waiting ≡ false → looked e ≡ with_left (e.left - 1) e
counting_looked e = go e.left e.window e.waiting
  where
    go : (l w : ℕ) (o : Bool) → o ≡ false
        → looked (record { left = l; window = w; waiting = o }) ≡ with_left (l - 1) (record { left = l; window = w; waiting = o })
    go l w true o = absurd (true≢false o)
    go zero w false o = refl
    go (suc zero) w false o = refl
    go (suc (suc l)) w false o = refl

count_beaten : (v : ℕ) → count_of (v + 2) ≡ pos v
count_beaten v = let e : v + 2 ≡ suc (suc v) = omega arith in ap count_of e

count_less : (l : ℕ) → has_failed (told_by (count_of l)) ≡ false → count_of (l - 1) ≡ pred_ℤ (count_of l)
count_less zero f = absurd (true≢false f)
count_less (suc zero) f = refl
count_less (suc (suc zero)) f = refl
count_less (suc (suc (suc l))) f = let e : suc (suc (suc l)) - 1 ≡ suc (suc l) = omega arith in ap count_of e

-- either way the same
pub unmoved : (o : Bool) (e : Entry) → cond o e e ≡ e
unmoved true e = refl
unmoved false e = refl

pub rules : (e : Entry) → Rules e
rules e = record {
  count_tells = λ w. rw w;
  beat_sets = λ v f. rw (live_beaten e v (live e f)) (record { count = count_beaten v; counting = refl; window_stays = refl });
  look_takes = λ w f.
      let counts : has_failed (told_by (count_of e.left)) ≡ false = rw w at (live e f) in
      rw (counting_looked e w) (record { count = count_less e.left counts; counting = refl; window_stays = refl });
  look_waits = waiting_looked e;
  failed_beat = λ v f. rw f;
  failed_look = λ f. rw f (unmoved e.waiting e);
  reset_window = λ w. refl;
  reset_count = λ w. refl;
  reset_waits = λ w. refl;
}
