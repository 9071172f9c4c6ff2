-- The BEATs of a course in steady periods, from what demand 2 says of a run of a laid file.
use Prim.Native.Nat.{ℕ, ◌+◌, ◌-◌, ◌%◌, ◌≤◌}
use native.Mathlib.{Omega.arith, Nat.add-zero}
use mathlib.Core.Path.{◌≡◌, refl, ap, sym, ◌∙◌, subst}
use mathlib.Core.Bool.{Bool, true, false, ◌||◌}
use mathlib.Core.List.{List}
use lib.ListN.{length}
use Rattle.model.specs.{Limits.most_ticks, Settings.settings_of, Trees.Block, Trees.file_tree, Runs.overran, Runs.run, Layout.ceiling, Layout.layout, Layout.total}
use Rattle.model.specs.{Placement.StepsPlaced, Answers.bit, Answers.is_finished, Answers.value_at, Chain.lend, Timeline.beat_list}
use Rattle.model.specs.declared.Settings.{Settings}
use Rattle.model.specs.declared.Form.TheVariants.{Laid}
use Rattle.model.specs.Replies.{laid_tree, laid_total, above, file_time, bad_buffers, ended, Loan, ready, steps_of, run_reply}
use Rattle.model.specs.Periods.{Course, laying, laid_in, run_in, steps_in, Steady, beats_ending}
use Rattle.theory.specs.Demand2.{laid_bytes}
use Rattle.theory.proofs.{Accepted.read, Accepted.passed, Accepted.lay_out_accepted, Files.laid_file_is, Files.laid_runnable, Prepared.finish}
use Rattle.theory.proofs.{Placing.placed_run, Running.steps, Laid.ceiling_below, Demand2.demand2}
use Rattle.theory.proofs.{BeatsEnding.beats_to, BeatsEnding.ending_listed}
use Rattle.model.specs.Periods.{listed_ending}

bit_zero : (o : Bool) → bit o ≡ 0 → o ≡ false
bit_zero true e = absurd (omega arith)
bit_zero false e = refl

-- a run that answers that it did not overrun
whole_run : (c : Loan) → is_finished (run_reply c) ≡ true → value_at 1 (run_reply c) ≡ 0 → overran (steps_of c) ≡ false
unfolding run_reply ready
whole_run c f z =
    let a = finish (run_reply c) f in
    let r = read c.settings c.form c.file _ a.0 a.1 in
    let p8 = passed 8 (above (settings_of c.settings) (file_time c.settings c.file)) _ a.0 r.goes_on in
    let p10 = passed 10 (bad_buffers c || false) (ended 0 (steps_of c)) a.0 p8.1 in
    bit_zero (overran (steps_of c)) (ap (value_at 1) (p10.1 ∙ sym a.1) ∙ z)

-- a course's BEATs: the last one starts s ticks into the period and has value x
pub record BeatsOf (k : Course) (s x : ℕ) : Type 0 where
  pub beat_lasts : 1 ≤ (settings_of k.settings).beat
  pub window_lasts : 1 ≤ (settings_of k.settings).window
  pub beat_in_window : (settings_of k.settings).beat ≤ (settings_of k.settings).window
  pub in_time : s + (settings_of k.settings).beat ≤ (settings_of k.settings).period
  pub at_window : s % (settings_of k.settings).window ≡ 0
  pub small : x ≤ most_ticks
  pub beats : (n a c : ℕ) → beats_ending c a (steps_in k n) ≡ listed_ending (a + (settings_of k.settings).beat) c (beats_to (settings_of k.settings).window s x)

abbrev pub last_start : Course → ℕ
last_start k = laid_total k.settings k.file - (settings_of k.settings).beat

abbrev pub last_beat : Course → ℕ
last_beat k = ceiling ((settings_of k.settings).period - laid_total k.settings k.file) (settings_of k.settings).window

pub total_beat : (σ : Settings) (b : Block) → σ.beat ≤ total σ b
unfolding total
total_beat σ b = omega arith

pub beats_of : (k : Course) → Steady k → BeatsOf k (last_start k) (last_beat k)
unfolding laid_tree
beats_of k steady =
    let s = k.settings in
    let σ = settings_of s in
    let r = finish (laying k) steady.laid_out in
    let a = lay_out_accepted s k.file (length k.room) r.0 r.1 in
    let f = demand2.laying_out_is s k.file k.room r.0 r.1 in
    let b = layout σ (file_tree k.file) in
    let bytes = laid_bytes s k.file in
    let e : laid_in k ≡ bytes = laid_file_is s k.file k.room r.0 r.1 in
    let tree = (laid_runnable s k.file (length k.room) r.0 a).tree in
    let window = a.in_range.positive.window_lasts in
    record {
      beat_lasts = a.in_range.positive.beat_lasts;
      window_lasts = window;
      beat_in_window = omega (arith, a.fits_window.wide);
      in_time = omega (arith, a.in_time, total_beat σ (file_tree k.file));
      at_window = f.last_start_is;
      small = omega (arith, ceiling_below (σ.period - laid_total s k.file) σ.window window, a.in_range.short);
      beats = λ n t c.
          let ins = (k.sets n).inputs in
          let v = (k.sets n).variables in
          let o = k.outputs n in
          let q : steps_in k n ≡ steps_of (lend s Laid bytes ins v o) = ap (λ (y : List ℕ). steps_of (lend s Laid y ins v o)) e in
          let p : run σ ins b 0 v ≡ steps_in k n = sym (q ∙ steps s Laid bytes b tree ins v o) in
          let placed : StepsPlaced σ 0 (steps_in k n) = subst (StepsPlaced σ 0) p (placed_run σ ins b 0 0 f.placed v) in
          let whole : overran (steps_in k n) ≡ false = whole_run (run_in k n) (steady.ran n) (steady.whole n) in
          let l : beat_list 0 (steps_in k n) ≡ beats_to σ.window (last_start k) (last_beat k) =
          ap (beat_list 0) q ∙ (f.steps ins v o).values (ap overran (sym q) ∙ whole) in
          ap (λ (u : ℕ). beats_ending c u (steps_in k n)) (sym (add-zero t)) ∙ ending_listed σ c t (steps_in k n) 0 placed ∙ ap (listed_ending (t + σ.beat) c) l;
    }
