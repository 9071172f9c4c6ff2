-- Where each part of W-201 is proved: one entry in WatchRules; tables, and calls one after another, in WatchTables; a silent controller in Silence;
-- steady periods in SteadyPeriods, which applies the law of Coverage to the beats of SteadyBeats.
use Prim.Native.Nat.{ℕ, ◌+◌, ◌-◌}
use native.Mathlib.Omega.{arith}
use mathlib.Core.{Path.refl, List.List}
use Rattle.model.specs.declared.Entry.{Entry}
use Rattle.model.specs.Watching.{Call}
use Rattle.theory.specs.Watching.{Watches, Watching}
use Rattle.theory.proofs.{WatchRules.rules, Silence.after_silence, Silence.none_left, SteadyPeriods.steady_never_failed, SteadyPeriods.steady_hears}
use Rattle.theory.proofs.WatchTables.{event_answers, table_length, apart, own_events, failed_holds, waits, reset_waits}

watches : (t : List Entry) (cs : List Call) (n : ℕ) → Watches t cs n
watches t cs n = record {
  size = table_length cs t;
  answers = event_answers t n;
  apart = apart t cs n;
  own_events = own_events cs t n;
  failed_holds = failed_holds t cs n;
  waits = waits t cs n;
  reset_waits = reset_waits t cs n;
  silent = λ v k finishes well mine.
      let z = none_left (v + 2 - k) in
      rw (after_silence t cs n v k finishes well mine) (λ failed. omega (arith, z.0 failed), λ l. z.1 (omega arith));
}

pub watching : Watching
watching = record { rules = rules; fresh_waits = refl; watches = watches; hears = steady_hears; steady = steady_never_failed }
