-- Laying out weaves SKIPs, BEATs of value 1 and SAVEs into a block, and leaves the rest of it as it was.
use Prim.Native.Nat.{ℕ, zero, suc, ◌+◌, ◌%◌, ◌*◌, ◌-◌, max}
use mathlib.Core.{Path.◌≡◌, Path.refl, Path.subst, List.List}
use lib.Dec.{eqb, ltb}
use Rattle.model.specs.declared.Settings.{Settings}
use Rattle.model.specs.Trees.{Test, Act, beat, save, Block, nil, skip, act, branch, while, times, ◌⧺◌, size, depth}
use Rattle.model.specs.{Times.ticks, Times.time, Runs.effect, Runs.run, Placement.Each, Placement.LoopFree}
use Rattle.model.specs.Layout.{commands, left, before, idle, idles, fill, filled, lay, opened, body}
use Rattle.laws.proofs.Trees.{⧺-nil}
use Rattle.theory.proofs.{Sequences.either, Traces.traced}
use Rattle.theory.proofs.Views.{Alike, alike_refl, alike-⊳, alike_single, alike_choose}

-- b, and b with more woven into it
pub data Woven : Block → Block → Type 0 where
  done : Woven nil nil
  waits : (n : ℕ) {b c : Block} → Woven b c → Woven b (skip n c)
  beats : {b c : Block} → Woven b c → Woven b (act (beat 1) c)
  saves : {b c : Block} → Woven b c → Woven b (act (save 0) c)
  skips : (n : ℕ) {b c : Block} → Woven b c → Woven (skip n b) c
  acts : (p : Act) {b c : Block} → Woven b c → Woven (act p b) (act p c)
  branches : (q : Test) {a a' d d' b b' : Block} → Woven a a' → Woven d d' → Woven b b' → Woven (branch q a d b) (branch q a' d' b')

woven-⧺ : {a a' b b' : Block} → Woven a a' → Woven b b' → Woven (a ⧺ b) (a' ⧺ b')
woven-⧺ done q = q
woven-⧺ (waits n p) q = waits n (woven-⧺ p q)
woven-⧺ (beats p) q = beats (woven-⧺ p q)
woven-⧺ (saves p) q = saves (woven-⧺ p q)
woven-⧺ (skips n p) q = skips n (woven-⧺ p q)
woven-⧺ (acts r p) q = acts r (woven-⧺ p q)
woven-⧺ (branches r x y p) q = branches r x y (woven-⧺ p q)

-- more after it
behind : {a a' e : Block} → Woven a a' → Woven nil e → Woven a (a' ⧺ e)
behind {a} {a'} {e} p q = subst (λ (x : Block). Woven x (a' ⧺ e)) (⧺-nil a) (woven-⧺ p q)

-- WHAT LAYING OUT ADDS

module _ (σ : Settings) where
  pub woven_commands : (t : ℕ) → Woven nil (commands σ t)
  woven_commands t =
      either (Woven nil) (eqb (t % σ.window) 0) _ nil
      (beats (either (Woven nil) (eqb (t % (σ.spacing * σ.window)) 0) (act (save 0) nil) nil (saves done) done)) done

  pub woven_before : (t d : ℕ) → Woven nil (before σ t d)
  unfolding before
  woven_before t d =
      let u = t + time σ (commands σ t) in
      woven-⧺ (woven_commands t)
      (either (Woven nil) (ltb (left σ u) d) (skip (left σ u) (commands σ (u + left σ u))) nil (waits (left σ u) (woven_commands (u + left σ u))) done)

  pub woven_idle : (t : ℕ) → Woven nil (idle σ t)
  woven_idle t = woven-⧺ (woven_before t 1) (waits 1 done)

  pub woven_idles : (n t : ℕ) → Woven nil (idles σ n t)
  woven_idles zero t = done
  woven_idles (suc n) t = woven-⧺ (woven_idle t) (woven_idles n (t + time σ (idle σ t)))

  pub woven_fill : (n t e : ℕ) → Woven nil (fill σ n t e)
  woven_fill zero t e = done
  woven_fill (suc n) t e = either (Woven nil) (ltb t e) _ nil (woven-⧺ (woven_idle t) (woven_fill n (t + time σ (idle σ t)) e)) done

  woven_filled : (t e : ℕ) {a a' : Block} → Woven a a' → Woven a (filled σ t a' e)
  woven_filled t e {a} {a'} p = behind p (woven_fill (e - (t + time σ a')) (t + time σ a') e)

  woven_lay : (b : Block) (t : ℕ) → LoopFree b → Woven b (lay σ b t)
  woven_lay nil t u = done
  woven_lay (skip n b) t u = skips n (woven-⧺ (woven_idles n t) (woven_lay b (t + time σ (idles σ n t)) u))
  woven_lay (act p b) t u =
      let s = t + time σ (before σ t (ticks σ p)) in
      woven-⧺ (woven_before t (ticks σ p)) (acts p (woven_lay b (s + ticks σ p) u))
  woven_lay (branch q a d b) t u =
      let s = t + time σ (before σ t 1) in
      let e = s + 1 + max (time σ (lay σ a (s + 1))) (time σ (lay σ d (s + 1))) in
      woven-⧺ (woven_before t 1)
      (branches q (woven_filled (s + 1) e (woven_lay a (s + 1) u.0)) (woven_filled (s + 1) e (woven_lay d (s + 1) u.1)) (woven_lay b e u.2))
  woven_lay (while q n a b) t u = absurd u
  woven_lay (times q n a b) t u = absurd u

  pub woven_body : (b : Block) → LoopFree b → Woven b (body σ b)
  woven_body b u =
      let t = time σ (opened σ b) in
      behind (beats (saves (woven_lay b (σ.beat + σ.save) u)))
      (either (Woven nil) (eqb (t % σ.window) 0) nil (skip (left σ t) nil) done (waits (left σ t) done))

-- WHAT IT LEAVES AS IT WAS

pub woven_depth : {b c : Block} → Woven b c → depth c ≡ depth b
woven_depth done = refl
woven_depth (waits n p) = woven_depth p
woven_depth (beats p) = woven_depth p
woven_depth (saves p) = woven_depth p
woven_depth (skips n p) = woven_depth p
woven_depth (acts r p) = woven_depth p
woven_depth (branches q x y p) = rw (woven_depth x, woven_depth y, woven_depth p)

pub woven_each : {b c : Block} (P : Act → Type 0) → P (beat 1) → P (save 0) → Woven b c → Each P b → Each P c
woven_each P x y done e = tt
woven_each P x y (waits n p) e = woven_each P x y p e
woven_each P x y (beats p) e = (x, woven_each P x y p e)
woven_each P x y (saves p) e = (y, woven_each P x y p e)
woven_each P x y (skips n p) e = woven_each P x y p e
woven_each P x y (acts r p) e = (e.0, woven_each P x y p e.1)
woven_each P x y (branches q a d p) e = (woven_each P x y a e.0, woven_each P x y d e.1, woven_each P x y p e.2)

module _ (σ : Settings) (ins : List ℕ) where
  pub run_woven : {b c : Block} → Woven b c → (i j : ℕ) → Alike traced (run σ ins c i) (run σ ins b j)
  unfolding effect
  run_woven done i j = alike_refl
  run_woven (waits n p) i j = record { at = λ v. (run_woven p (i + 1) j).at v }
  run_woven (beats p) i j = record { at = λ v. (run_woven p (i + 1) j).at v }
  run_woven (saves p) i j = record { at = λ v. (run_woven p (i + 1) j).at v }
  run_woven (skips n p) i j = record { at = λ v. (run_woven p i (j + 1)).at v }
  run_woven (acts r p) i j = alike-⊳ (alike_single (ticks σ r) i j (effect ins r)) (run_woven p (i + 1) (j + 1))
  run_woven (branches q {a} {a'} {d} {d'} x y p) i j =
      alike-⊳ (alike_choose q i j (run_woven x (i + 1) (j + 1)) (run_woven y (i + 2 + size a') (j + 2 + size a)))
      (run_woven p (i + 3 + size a' + size d') (j + 3 + size a + size d))
