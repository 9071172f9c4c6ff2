-- What laying out makes of an equalised file: its time, its records, its depth, what its runs leave, and that its records are in place.
use Prim.Native.Nat.{ℕ, zero, suc, ◌+◌, ◌-◌, ◌%◌, ◌≤◌}
use native.Mathlib.{Omega.arith, Nat.div-eq_of_lt, Nat.div-le_of_le-mul, Nat.mul-le-mul_right}
use mathlib.Core.Path.{◌≡◌, refl, ap, ◌∙◌}
use mathlib.Core.{Bool.false, List.List}
use borrow.Author.Tests.{le-leb}
use Rattle.model.specs.declared.Settings.{Settings}
use Rattle.model.specs.declared.Form.TheVariants.{Equalised, Laid}
use Rattle.model.specs.Trees.{beat, Block, nil, act, depth, act_rec}
use Rattle.model.specs.{Times.time, Refusals.fields_fit, Placement.Fits, Placement.Placed}
use Rattle.model.specs.Runs.{overran, duration, effect, run}
use Rattle.model.specs.Layout.{unroll, body, ceiling, last_value, closed, layout, total}
use Rattle.model.specs.Standing.{Fit, OfForm}
use Rattle.theory.proofs.{Times.time-⧺, Times.time_merge, Times.time_unroll, Views.Alike, Views.alike_trans, Views.alike_eq}
use Rattle.theory.proofs.{Sequences.run-⧺, Traces.traced, Traces.silent_behind, Agreement.run_merge, Agreement.run_unroll}
use Rattle.theory.proofs.{Placing.placed_even, Placing.placed_merge, Lasts.even_lasts}
use Rattle.theory.proofs.Forms.{Formed, formed, formed-⧺, merged_of_form, depth-⧺, depth_merge}
use Rattle.theory.proofs.Unrolling.{unrolled_loop_free, unrolled_command_free, unrolled_formed, depth_unroll}
use Rattle.theory.proofs.Windows.{placed_body, body_ends, body_longer, window_pos}
use Rattle.theory.proofs.Weaving.{Woven, done, waits, beats, saves, skips, acts, branches, woven_body, woven_depth, run_woven}

-- a count of windows is at most the ticks that they cover
pub ceiling_below : (n d : ℕ) → 1 ≤ d → ceiling n d ≤ n
ceiling_below zero d l = omega (arith, div-eq_of_lt {n = 0 + (d - 1)} {m = d} (omega arith))
ceiling_below (suc n) d l = div-le_of_le-mul d (omega (arith, mul-le-mul_right n l))

-- the records woven in are those of a laid file
woven_formed : {b c : Block} → Woven b c → Formed Laid b → Formed Laid c
unfolding fields_fit
woven_formed done p = tt
woven_formed (waits n w) p = woven_formed w p
woven_formed (beats w) p = (record { kind = refl; fields = refl }, woven_formed w p)
woven_formed (saves w) p = (record { kind = refl; fields = refl }, woven_formed w p)
woven_formed (skips n w) p = woven_formed w p
woven_formed (acts r w) p = (p.0, woven_formed w p.1)
woven_formed (branches q x y w) p = (p.0, woven_formed x p.1, woven_formed y p.2, woven_formed w p.3)

beat_fits : (x : ℕ) → x ≤ 1000000 → Fit Laid (act_rec (beat x))
unfolding fields_fit
beat_fits x l = record { kind = refl; fields = rw (le-leb x 1000000 l) }

module _ (σ : Settings) (b : Block) where
  time_closed : time σ (closed σ (unroll b)) ≡ total σ b
  unfolding total
  time_closed = time-⧺ σ (body σ (unroll b)) (act (beat (last_value σ (time σ (body σ (unroll b))))) nil) ∙ omega arith

  pub time_laid : time σ (layout σ b) ≡ total σ b
  unfolding layout
  time_laid = time_merge σ (closed σ (unroll b)) 0 ∙ omega (arith, time_closed)

  module _ (p : OfForm Equalised b) where
    woven : Woven (unroll b) (body σ (unroll b))
    woven = woven_body σ (unroll b) (unrolled_loop_free b (formed Equalised b p))

    pub laid_of_form : 1 ≤ σ.window → σ.period ≤ 1000000 → total σ b ≤ 1000000 → OfForm Laid (layout σ b)
    unfolding layout last_value
    laid_of_form l m n =
        let t = time σ (body σ (unroll b)) in
        let x = ceiling_below (σ.period - (t + σ.beat)) σ.window l in
        merged_of_form Laid σ (closed σ (unroll b))
        (formed-⧺ Laid (body σ (unroll b)) (act (beat (last_value σ t)) nil)
        (woven_formed woven (unrolled_formed b (formed Equalised b p))) (beat_fits (last_value σ t) (omega arith), tt))
        (omega (arith, time_closed))

    pub depth_laid : depth (layout σ b) ≤ depth b
    unfolding layout
    depth_laid =
        let c = closed σ (unroll b) in
        omega (
          arith,
          depth_merge c 0,
          depth-⧺ (body σ (unroll b)) (act (beat (last_value σ (time σ (body σ (unroll b))))) nil),
          woven_depth woven,
          depth_unroll b,
        )

    pub run_laid : (ins : List ℕ) (i j : ℕ) → Alike traced (run σ ins (layout σ b) i) (run σ ins b j)
    unfolding layout effect
    run_laid ins i j =
        let u = unroll b in
        let x = act (beat (last_value σ (time σ (body σ u)))) nil in
        alike_trans (run_merge σ ins (closed σ u) 0 i i)
        (alike_trans (alike_eq (run-⧺ σ ins (body σ u) x i))
        (alike_trans (silent_behind {f = run σ ins (body σ u) i} {g = run σ ins x _} (record { none = λ v. refl }))
        (alike_trans (run_woven σ ins woven i i)
        (run_unroll σ ins b i j))))

    -- the file's time above P puts the total above P too
    pub total_longer : time σ b ≤ total σ b
    unfolding total
    total_longer = omega (arith, time_unroll σ b, body_longer σ (unroll b) (unrolled_loop_free b (formed Equalised b p)))

    module _ (fits : Fits σ) where
      pub placed_laid : Placed σ (layout σ b) 0
      unfolding layout
      placed_laid =
          let f = formed Equalised b p in
          placed_merge σ (window_pos σ fits) (closed σ (unroll b)) 0
          (placed_body σ fits (unroll b) (last_value σ (time σ (body σ (unroll b)))) (unrolled_loop_free b f) (unrolled_command_free b f))

      -- the last BEAT starts at a multiple of H
      pub last_start_is : (total σ b - σ.beat) % σ.window ≡ 0
      unfolding total
      last_start_is =
          let f = formed Equalised b p in
          let t = time σ (body σ (unroll b)) in
          let e : t + σ.beat - σ.beat ≡ t = omega arith in
          ap (λ (n : ℕ). n % σ.window) e ∙ body_ends σ fits (unroll b) (unrolled_loop_free b f) (unrolled_command_free b f)

      pub laid_lasts : (ins v : List ℕ) → overran (run σ ins (layout σ b) 0 v) ≡ false → duration (run σ ins (layout σ b) 0 v) ≡ total σ b
      laid_lasts ins v h = (even_lasts σ ins (layout σ b) 0 (placed_even σ (layout σ b) 0 placed_laid)).in_all v h ∙ time_laid
