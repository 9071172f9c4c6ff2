-- A state's counts tell what the definitions work out by remainders: the commands that are due, the ticks left, what stands before a step.
use Prim.Native.Nat.{ℕ, ◌+◌, ◌*◌, ◌%◌, ◌≤◌, ◌<◌}
use native.Mathlib.{Omega.arith, Nat.add-zero, Nat.mod-lt, Nat.mod_self, Nat.mod-eq_of_lt, Nat.mul-le-mul_left}
use mathlib.Core.Path.{◌≡◌, refl, ap, sym, ◌∙◌}
use mathlib.Core.Bool.{Bool, true, false, cond}
use lib.Dec.{eqb, ltb}
use borrow.Author.Tests.{lt-ltb, le-ltb, eqb-true, eqb-false, eq-eqb, ne_eqb}
use Rattle.model.specs.declared.Settings.{Settings}
use Rattle.model.specs.Trees.{beat, save, Block, nil, skip, act}
use Rattle.model.specs.{Times.time, Times.longest, Layout.commands, Layout.left, Layout.before}
use Rattle.theory.specs.Windows.{round}
use Rattle.laws.proofs.Trees.{⧺-nil}
use Rattle.theory.proofs.{Times.time-⧺, Sequences.either, Clock.mod_within, Clock.mod_next}
use Rattle.theory.proofs.Windows.{window_pos, round_pos, window_on}
use Rattle.placing.specs.declared.clock.State.{State}
use Rattle.placing.specs.States.{Layable, Shows, Remainders}
use Rattle.placing.proofs.Settling.{Alike, alike_eq, alike_trans, alike_skip}

module _ (σ : Settings) where
  commands_short : (t : ℕ) → time σ (commands σ t) ≤ σ.beat + σ.save
  commands_short t =
      either (λ (b : Block). time σ b ≤ σ.beat + σ.save) (eqb (t % σ.window) 0) _ nil
      (either (λ (b : Block). σ.beat + time σ b ≤ σ.beat + σ.save) (eqb (t % round σ) 0) (act (save 0) nil) nil (omega arith) (omega arith))
      (omega arith)

  -- what stands before a step takes no more than three windows
  pub before_short : (t d : ℕ) → Layable σ → time σ (before σ t d) ≤ 3 * σ.window
  unfolding before
  before_short t d L =
      let u = t + time σ (commands σ t) in
      let w = skip (left σ u) (commands σ (u + left σ u)) in
      let c = either (λ (b : Block). time σ b ≤ 2 * σ.window) (ltb (left σ u) d) w nil (omega (arith, commands_short (u + left σ u), L.fits.wide)) (omega arith) in
      omega (arith, time-⧺ σ (commands σ t) (cond (ltb (left σ u) d) w nil), c, commands_short t, L.fits.wide)

module _ {σ : Settings} (L : Layable σ) {s : State} (S : Shows σ s) where
  -- W-203: the counts are what divisions would give
  pub remainders : Remainders σ s
  remainders = record {
    ticks = mod_next σ.window (window_pos σ L.fits) s.tick s.ticks_left S.below S.bound;
    windows =
        let h = mul-le-mul_left σ.window S.fewer in
        mod_next (round σ) (round_pos σ L.fits) (s.tick + s.ticks_left) (σ.window * s.windows_left) (omega (arith, window_pos σ L.fits)) S.round;
  }

  -- the commands of the next multiple of H
  pub commands_due : commands σ (s.tick + s.ticks_left) ≡ act (beat 1) (cond (eqb s.windows_left 0) (act (save 0) nil) nil)
  commands_due = rw (eq-eqb (t % σ.window) 0 S.bound, go (eqb s.windows_left 0) refl)
    where
      t : ℕ
      t = s.tick + s.ticks_left

      go : (o : Bool) → eqb s.windows_left 0 ≡ o → eqb (t % round σ) 0 ≡ o
      go true e =
          let z : t + σ.window * s.windows_left ≡ t = rw (eqb-true s.windows_left 0 e) (omega arith) in
          eq-eqb (t % round σ) 0 (ap (λ (x : ℕ). x % round σ) (sym z) ∙ S.round)
      go false e =
          ne_eqb (t % round σ) 0
          (λ z.
          let w : 1 ≤ s.windows_left = omega (arith, eqb-false s.windows_left 0 e) in
          let l = mul-le-mul_left σ.window w in
          let h = mul-le-mul_left σ.window S.fewer in
          let m = mod_within (round σ) (round_pos σ L.fits) t (σ.window * s.windows_left) (omega arith) in
          omega (arith, S.round, window_pos σ L.fits))

  -- before it there are none
  pub no_commands : 1 ≤ s.ticks_left → commands σ s.tick ≡ nil
  no_commands l = rw (ne_eqb (s.tick % σ.window) 0 (λ z. omega (arith, S.bound, window_on σ L.fits s.tick s.ticks_left (omega (arith, S.below)))))

  pub left_is : 1 ≤ s.ticks_left → left σ s.tick ≡ s.ticks_left
  left_is l = go (eqb (s.tick % σ.window) 0) refl
    where
      go : (o : Bool) → eqb (s.tick % σ.window) 0 ≡ o → left σ s.tick ≡ s.ticks_left
      go true e =
          let z : left σ s.tick ≡ σ.window = omega (arith, eqb-true (s.tick % σ.window) 0 e) in
          omega (arith, remainders.ticks ∙ ap (λ (x : ℕ). x % σ.window) z ∙ mod_self σ.window)
      go false e =
          let p = mod-lt s.tick (window_pos σ L.fits) in
          sym (remainders.ticks ∙ mod-eq_of_lt (omega (arith, eqb-false (s.tick % σ.window) 0 e)))

  -- what stands before a step at a multiple of H, and past its commands
  before_bound : (d : ℕ) → s.ticks_left ≡ 0 → d ≤ longest σ → before σ s.tick d ≡ commands σ s.tick
  unfolding before
  before_bound d e h =
      let c = commands σ s.tick in
      let u = s.tick + time σ c in
      let z : s.tick % σ.window ≡ 0 = ap (λ (x : ℕ). x % σ.window) (omega arith) ∙ S.bound in
      let m = window_on σ L.fits s.tick (time σ c) (omega (arith, L.fits.wide, L.fits.positive.set_lasts, commands_short σ s.tick)) in
      rw (le-ltb (left σ u) d (omega (arith, L.fits.wide, commands_short σ s.tick))) (⧺-nil c)

  before_past : (d : ℕ) → 1 ≤ s.ticks_left → before σ s.tick d ≡ cond (ltb s.ticks_left d) (skip s.ticks_left (commands σ (s.tick + s.ticks_left))) nil
  unfolding before
  before_past d l = rw (no_commands l, add-zero s.tick, left_is l)

  -- a step that is longer than the ticks left waits
  pub before_waits : (d : ℕ) → s.ticks_left < d → d ≤ longest σ → Alike σ (skip s.ticks_left (commands σ (s.tick + s.ticks_left))) (before σ s.tick d)
  before_waits d l h = go (eqb s.ticks_left 0) refl
    where
      go : (o : Bool) → eqb s.ticks_left 0 ≡ o → Alike σ (skip s.ticks_left (commands σ (s.tick + s.ticks_left))) (before σ s.tick d)
      go true e =
          let z = eqb-true s.ticks_left 0 e in
          rw (z, add-zero s.tick) (alike_trans (alike_skip (commands σ s.tick)) (alike_eq (sym (before_bound d z h))))
      go false e = alike_eq (sym (before_past d (omega (arith, eqb-false s.ticks_left 0 e)) ∙ rw (lt-ltb s.ticks_left d l)))

  -- any other does not
  pub before_none : (d : ℕ) → 1 ≤ d → d ≤ s.ticks_left → before σ s.tick d ≡ nil
  before_none d l h = before_past d (omega arith) ∙ rw (le-ltb s.ticks_left d h)
