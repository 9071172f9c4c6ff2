-- "a prepared task in steady periods .. is never failed": its beats cover the looks, and none of its events is refused.
use Prim.Native.Nat.{ℕ, zero, suc, ◌+◌, ◌-◌, ◌≤◌, ◌<◌}
use native.Mathlib.{Omega.arith, Nat.mul-le-mul_left}
use mathlib.Core.Path.{◌≡◌, refl, ap, sym, ◌∙◌, subst}
use mathlib.Core.Bool.{Bool, true, false, true≢false}
use mathlib.Core.List.{List, [], ◌∷◌, ◌++◌}
use mathlib.Core.List.Memᴰ.{head as at_head}
use mathlib.Core.List.Memᴰ.{tail as in_Tail}
use mathlib.Core.List.{Memᴰ as Among}
use lib.ListN.{replicate}
use borrow.Author.Tests.{ne_eqb, le-ltb}
use Rattle.model.specs.{Limits.most_ticks, Settings.settings_of, Trees.file_tree, Layout.ceiling, Replies.laid_total}
use Rattle.model.specs.declared.{Settings.Settings, Entry.Entry, Event.Event}
use Rattle.model.specs.declared.Event.TheVariants.{Look, Reset}
use Rattle.model.specs.Watching.{health_of, has_failed, fresh_of, bad_event, entry_at, table_after, after_all}
use Rattle.model.specs.Periods.{Course, begins, steps_in, Steady, beats_at, looks_every, events_at, events_from}
use Rattle.theory.specs.Watching.{Taken, HearsBeats, NeverFailed}
use Rattle.theory.proofs.{WatchTables.waiting_stays, WatchTables.failed_status, WatchTables.own_events}
use Rattle.theory.proofs.{Coverage.looks_in, Coverage.Covers, Coverage.events-++, Coverage.never_failed, BeatsEnding.each_beat}
use Rattle.theory.proofs.BeatsEnding.{from_periods, periods_enough}
use Rattle.theory.proofs.{CoveredPeriods.BeatsSteadily, CoveredPeriods.covered}
use Rattle.theory.proofs.Looks.{ceiling_covers, ceiling_least, few_looks, every_spaced}
use Rattle.theory.proofs.SteadyBeats.{BeatsOf, last_start, last_beat, total_beat, beats_of}

-- ONE PERIOD AFTER ANOTHER

-- a period has ticks
long : {k : Course} {s x : ℕ} → BeatsOf k s x → 1 ≤ (settings_of k.settings).period
long f = omega (arith, f.beat_lasts, f.in_time)

-- Any j ticks have at most `late` more looks than windows, one begun counting whole; the last value leaves `keep` at the end of a period.
module _ (k : Course) (s x : ℕ) (f : BeatsOf k s x) (looks : ℕ → Bool) (keep late : ℕ) (enough : late + keep ≤ 2)
    (reaches : ceiling ((settings_of k.settings).period - s) (settings_of k.settings).window + late + keep ≤ x + 2) where
  abbrev σ : Settings
  σ = settings_of k.settings

  -- a period that begins at tick a, where that is so between the ends of its first BEAT and of the next period's
  pub period : (n a : ℕ) → ((b j : ℕ) → a + σ.beat ≤ b → b + j ≤ a + σ.period + σ.beat → looks_in looks b j ≤ ceiling j σ.window + late)
      → BeatsSteadily keep σ.beat looks a σ.window s x (σ.period - s) (steps_in k n)
  period n a few = record {
    beats = f.beats n a;
    wide = f.window_lasts;
    whole = f.at_window;
    goes_on = omega (arith, f.beat_lasts, f.in_time);
    between = λ u e l.
        omega (
          arith,
          few (a + σ.beat + u) σ.window (omega arith) (omega (arith, f.in_time)),
          ceiling_least σ.window σ.window 1 f.window_lasts (omega arith),
          enough,
        );
    behind = omega (arith, few (a + σ.beat + s) (σ.period - s) (omega arith) (omega (arith, f.in_time)), reaches);
  }

  pub steady_covered : ((b j : ℕ) → looks_in looks b j ≤ ceiling j σ.window + late) → (t v : ℕ) → Among v (beats_at k t) → Covers keep (beats_at k) looks t v
  steady_covered few =
      covered keep σ.beat looks (begins k) (steps_in k) (λ n. σ.window) (λ n. s) (λ n. x) (λ n. σ.period - s)
      (λ n. omega (arith, mul-le-mul_left n (long f))) (λ n. omega (arith, f.in_time)) (λ n. period n (begins k n) (λ b j l m. few b j))

-- no beat is above the most
steady_small : (k : Course) (s x : ℕ) → BeatsOf k s x → (t v : ℕ) → Among v (beats_at k t) → v ≤ most_ticks
steady_small k s x f t v a =
    let σ = settings_of k.settings in
    let p = from_periods (begins k) (steps_in k) t v (suc t) a in
    each_beat (λ y. y ≤ most_ticks) σ.window s x (begins k p.0 + σ.beat) t (λ u e l q. omega arith) (λ q. f.small) v
    (subst (Among v) (f.beats p.0 (begins k p.0) t) p.1)

-- THE LAST VALUE

-- It covers the looks of the rest of the period but one: the BEAT's own ticks are no more than a window.
last_reaches : (p t b h : ℕ) → 0 < h → b ≤ h → b ≤ t → t - b + b ≤ p → ceiling (p - (t - b)) h ≤ ceiling (p - t) h + 1
last_reaches p t b h l m n o = let y = ceiling_covers (p - t) h l in ceiling_least (p - (t - b)) h (ceiling (p - t) h + 1) l (omega arith)

abbrev pub Reaches : Course → ℕ → Type 0
Reaches k keep = ceiling ((settings_of k.settings).period - last_start k) (settings_of k.settings).window + keep ≤ last_beat k + 2

module _ (k : Course) (steady : Steady k) where
  pub steady_reaches : Reaches k 1
  steady_reaches =
      let σ = settings_of k.settings in
      let f = beats_of k steady in
      let t = laid_total k.settings k.file in
      omega (arith, last_reaches σ.period t σ.beat σ.window f.window_lasts f.beat_in_window (total_beat σ (file_tree k.file)) f.in_time)

  -- with looks every window
  pub every_covered : (keep : ℕ) → keep ≤ 2 → Reaches k keep → (a t v : ℕ) → Among v (beats_at k t)
      → Covers keep (beats_at k) (looks_every (settings_of k.settings).window a) t v
  every_covered keep l m a =
      let h = (settings_of k.settings).window in
      let f = beats_of k steady in
      steady_covered k (last_start k) (last_beat k) f (looks_every h a) keep 0 (omega arith) (omega arith)
      (λ b j. omega (arith, few_looks h (looks_every h a) b j f.window_lasts (every_spaced h a b j)))

-- NO EVENT IS REFUSED

taken-++ : (xs ys : List Event) → Taken xs → Taken ys → Taken (xs ++ ys)
taken-++ [] ys p q = q
taken-++ (x ∷ xs) ys p q = (p.0, taken-++ xs ys p.1 q)

taken_looks : (j : ℕ) → Taken (replicate j Look)
taken_looks zero = tt
taken_looks (suc j) = (refl, taken_looks j)

taken_at : (vs : List ℕ) (look : Bool) → ((v : ℕ) → Among v vs → v ≤ most_ticks) → Taken (events_at vs look)
taken_at [] true small = (refl, tt)
taken_at [] false small = tt
taken_at (v ∷ vs) look small = (le-ltb most_ticks v (small v (at_head refl)), taken_at vs look (λ w m. small w (in_Tail m)))

taken_from : (vs : ℕ → List ℕ) (looks : ℕ → Bool) → ((t v : ℕ) → Among v (vs t) → v ≤ most_ticks) → (r n : ℕ) → Taken (events_from vs looks r n)
taken_from vs looks small r zero = tt
taken_from vs looks small r (suc n) =
    taken-++ (events_from vs looks r n) (events_at (vs (r + n)) (looks (r + n))) (taken_from vs looks small r n)
    (taken_at (vs (r + n)) (looks (r + n)) (small (r + n)))

-- NEVER FAILED

pub steady_never_failed : (k : Course) → Steady k → (a j r m : ℕ) → NeverFailed k a j r m
steady_never_failed k steady a j r m =
    let h = (settings_of k.settings).window in
    let xs = events_from (beats_at k) (looks_every h a) r m in
    let f = beats_of k steady in
    let small = steady_small k (last_start k) (last_beat k) f in
    let reset : bad_event (Reset h) ≡ false = ne_eqb h 0 (λ z. omega (arith, z, f.window_lasts)) in
    let covers = every_covered k steady 1 (omega arith) (steady_reaches k steady) a in
    let holds = never_failed (beats_at k) (looks_every h a) 1 (omega arith) covers r (fresh_of h) refl m in
    record {
      taken = (reset, taken-++ (replicate j Look) xs (taken_looks j) (taken_from (beats_at k) (looks_every h a) small r m));
      never_failed = λ t cs n here mine failed.
          let e : entry_at (table_after t cs) n ≡ after_all xs (fresh_of h) =
          own_events cs t n here ∙ ap (λ (ys : List Event). after_all ys (entry_at t n)) mine
          ∙ events-++ (replicate j Look) xs (fresh_of h) ∙ ap (after_all xs) (waiting_stays j (fresh_of h) refl) in
          true≢false (sym (ap has_failed (failed_status (table_after t cs) n failed).1) ∙ ap (λ (y : Entry). has_failed (health_of y)) e ∙ holds);
    }

-- WHAT THE WATCHER HEARS

pub steady_hears : (k : Course) → Steady k → HearsBeats k
steady_hears k steady =
    let f = beats_of k steady in
    record {
      in_period = λ n c. f.beats n (begins k n) c;
      in_all = periods_enough (begins k) (steps_in k) (λ n. omega (arith, mul-le-mul_left n (long f)));
    }
