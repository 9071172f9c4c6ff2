-- Single ticks of SKIP: how SKIPs and the filling of a side come to the same, and those before which nothing stands.
use Prim.Native.Nat.{ℕ, zero, suc, ◌+◌, ◌≤◌, ◌<◌}
use native.Mathlib.{Omega.arith, Nat.add-zero}
use mathlib.Core.Path.{◌≡◌, refl, ap, ap₂, sym, ◌∙◌}
use borrow.Author.Tests.{lt-ltb}
use Rattle.model.specs.declared.Settings.{Settings}
use Rattle.model.specs.Trees.{Block, nil, skip, ◌⧺◌}
use Rattle.model.specs.Times.{time}
use Rattle.model.specs.Layout.{before, idle, idles, fill}
use Rattle.laws.proofs.Trees.{⧺-assoc}
use Rattle.theory.proofs.Times.{time-⧺}
use Rattle.placing.specs.declared.clock.State.{State}
use Rattle.placing.specs.States.{Layable, Shows}
use Rattle.placing.proofs.Settling.{Alike, alike_eq, alike_sym, alike_trans, alike-⧺, alike_skip, alike_skips}
use Rattle.placing.proofs.{Ticking.before_none, Moves.on, Moves.shows_on}

module _ (σ : Settings) where
  -- SKIPs are the filling up to a tick where they have ended
  pub idles_filled : (n t e : ℕ) → t + time σ (idles σ n t) ≤ e → fill σ n t e ≡ idles σ n t
  idles_filled zero t e h = refl
  idles_filled (suc n) t e h =
      let u = t + time σ (idle σ t) in
      let z = time-⧺ σ (idle σ t) (idles σ n u) in
      let y = time-⧺ σ (before σ t 1) (skip 1 nil) in
      rw (lt-ltb t e (omega arith)) (ap (λ (c : Block). idle σ t ⧺ c) (idles_filled n u e (omega arith)))

  -- one tick, and the commands before it
  pub fill_more : (k t u e : ℕ) → t < e → u ≡ t + time σ (before σ t 1) → fill σ (suc k) t e ≡ before σ t 1 ⧺ skip 1 (fill σ k (u + 1) e)
  fill_more k t u e l z =
      let w : t + time σ (idle σ t) ≡ u + 1 = omega (arith, time-⧺ σ (before σ t 1) (skip 1 nil)) in
      rw (lt-ltb t e l)
      (⧺-assoc (before σ t 1) (skip 1 nil) (fill σ k (t + time σ (idle σ t)) e) ∙ ap (λ (v : ℕ). before σ t 1 ⧺ skip 1 (fill σ k v e)) w)

module _ {σ : Settings} where
  -- nothing stands before the ticks that are left in a window
  pub before_on : {s : State} → Layable σ → Shows σ s → (i : ℕ) → i < s.ticks_left → before σ (s.tick + i) 1 ≡ nil
  before_on {s} L S i l = before_none L (shows_on {r = on s i s.wait s.records} i S refl (omega arith) refl (omega (arith, S.waited)) S.few) 1 (omega arith) (omega arith)

  -- a longer SKIP
  skip_more : (i : ℕ) {a b : Block} → Alike σ (skip i a) b → Alike σ (skip (suc i) a) (skip 1 b)
  skip_more i {a} {b} A =
      let z : suc i ≡ 1 + i = omega arith in
      rw z (alike_trans (alike_sym (alike_skips 1 i a)) (alike-⧺ (skip i a) b (alike_eq {a = skip 1 nil} refl) A))

  -- i single ticks below e, before which nothing stands, are one SKIP
  pub ticks_on : (i m k t u e : ℕ) → k ≡ i + m → u ≡ t + i → ((x : ℕ) → x < i → (t + x < e) × (before σ (t + x) 1 ≡ nil))
      → Alike σ (skip i (fill σ m u e)) (fill σ k t e)
  ticks_on zero m k t u e x y free =
      let p : m ≡ k = omega arith in
      let q : u ≡ t = omega arith in
      alike_trans (alike_skip (fill σ m u e)) (alike_eq (ap₂ (λ (a b : ℕ). fill σ a b e) p q))
  ticks_on (suc i) m zero t u e x y free = absurd (omega arith)
  ticks_on (suc i) m (suc k) t u e x y free =
      let q : before σ t 1 ≡ nil = rw (add-zero t) at (free 0 (omega arith)).1 in
      let o = ticks_on i m k (t + 1) u e (omega arith) (omega arith) (λ x l. rw (next x) (free (suc x) (omega arith))) in
      alike_trans (skip_more i o)
      (alike_eq
      (ap (λ (c : Block). c ⧺ skip 1 (fill σ k (t + 1) e)) (sym q)
      ∙ sym (fill_more σ k t t e (omega (arith, (free 0 (omega arith)).0)) (omega (arith, ap (time σ) q)))))
    where
      next : (x : ℕ) → t + 1 + x ≡ t + suc x
      next x = omega arith
