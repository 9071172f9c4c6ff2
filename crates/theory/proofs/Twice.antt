-- Fewer than K × H ticks are run twice: the first step not done ends at most K × H after the last finished SAVE.
use Prim.Native.Nat.{ℕ, ◌+◌, ◌*◌, ◌%◌, ◌≤◌, ◌<◌}
use native.Mathlib.{Omega.arith, Nat.zero-mod, Nat.add-zero}
use mathlib.Core.Path.{◌≡◌, refl, ap, ◌∙◌}
use mathlib.Core.Bool.{Bool, true, false, cond}
use mathlib.Core.List.{List, [], ◌∷◌, ◌++◌}
use lib.Dec.{ltb}
use borrow.Author.Tests.{ltb-true, ltb-false, eq-eqb, ne_eqb}
use Rattle.model.specs.declared.Settings.{Settings}
use Rattle.model.specs.Runs.{is_save, Step, duration, on_variables}
use Rattle.model.specs.Stopping.{Image, Saved, none, saved, last_image}
use Rattle.model.specs.{Placement.Fits, Placement.InPlace, Placement.StepsPlaced, Timeline.last_save_end}
use Rattle.theory.specs.Windows.{round}
use Rattle.theory.proofs.Clock.{mod_within, mod_over}
use Rattle.theory.proofs.Windows.{window_pos, window_round, round_pos, round_small, round_ends}

-- the tick at the end of the last finished SAVE, or 0
abbrev pub saved_tick : Saved → ℕ
saved_tick none = 0
saved_tick (saved m) = m.tick

pub saved_tick_is : (es : List Step) (t : ℕ) (v : List ℕ) (m : Saved) → saved_tick (last_image es t v m) ≡ last_save_end (saved_tick m) t es
saved_tick_is [] t v m = refl
saved_tick_is (e ∷ es) t v m =
    let u = t + e.lasts in
    let w = on_variables e.does v in
    saved_tick_is es u w _ ∙ ap (λ (d : ℕ). last_save_end d u es) (go (is_save e.does) (record { index = e.index + 1; tick = u; variables = w }))
  where
    go : (o : Bool) (i : Image) → saved_tick (cond o (saved i) m) ≡ cond o i.tick (saved_tick m)
    go true i = refl
    go false i = refl

-- Where the start t of a step stands to the last finished SAVE's end s: after the commands of its round, at the BEAT of a new
-- round, or at its SAVE.
data Since (σ : Settings) (t s : ℕ) : Type 0 where
  same : σ.beat + σ.save ≤ t % round σ → t + (σ.beat + σ.save) ≤ s + t % round σ → Since σ t s
  beat : t % round σ ≡ 0 → t + (σ.beat + σ.save) ≤ s + round σ → Since σ t s
  save : t % round σ ≡ σ.beat → t + σ.save ≤ s + round σ → Since σ t s

module _ (σ : Settings) (fits : Fits σ) where
  lasts_beat : (t : ℕ) (e : Step) → InPlace σ t e.lasts e.does → t % round σ ≡ 0 → e.lasts ≡ σ.beat
  lasts_beat t e p z = p.beat_lasts (p.beat_at_is ∙ eq-eqb (t % σ.window) 0 (round_small σ fits t 0 (window_pos σ fits) z))

  lasts_save : (t : ℕ) (e : Step) → InPlace σ t e.lasts e.does → t % round σ ≡ σ.beat → e.lasts ≡ σ.save
  lasts_save t e p z = p.save_lasts (p.save_at ∙ eq-eqb (t % round σ) σ.beat z)

  ends : (t s : ℕ) (e : Step) → Since σ t s → InPlace σ t e.lasts e.does → t + e.lasts ≤ s + round σ
  ends t s e (same a b) p = omega (arith, round_ends σ fits t e.lasts p.ends)
  ends t s e (beat a b) p = omega (arith, lasts_beat t e p a)
  ends t s e (save a b) p = omega (arith, lasts_save t e p a)

  on : (t d : ℕ) → t % round σ + d < round σ → (t + d) % round σ ≡ t % round σ + d
  on = mod_within (round σ) (round_pos σ fits)

  -- after a step e
  next : (t : ℕ) (e : Step) (m : Saved) (i : Image) → i.tick ≡ t + e.lasts → Since σ t (saved_tick m) → InPlace σ t e.lasts e.does
      → Since σ (t + e.lasts) (saved_tick (cond (is_save e.does) (saved i) m))
  next t e m i x (same a b) p = rw (p.save_at, ne_eqb (t % round σ) σ.beat (λ z. omega arith)) (go (ltb (t % round σ + e.lasts) (round σ)) refl)
    where
      go : (o : Bool) → ltb (t % round σ + e.lasts) (round σ) ≡ o → Since σ (t + e.lasts) (saved_tick m)
      go true l = let q = on t e.lasts (ltb-true (t % round σ + e.lasts) (round σ) l) in same (omega arith) (omega arith)
      go false l =
          let h = ltb-false (t % round σ + e.lasts) (round σ) l in
          let r = round_ends σ fits t e.lasts p.ends in
          beat (mod_over (round σ) (round_pos σ fits) t e.lasts (omega arith)) (omega arith)
  next t e m i x (beat a b) p =
      let d = lasts_beat t e p a in
      let q = on t e.lasts (omega (arith, window_round σ fits)) in
      rw (p.save_at, ne_eqb (t % round σ) σ.beat (λ z. omega arith)) (save (omega arith) (omega arith))
  next t e m i x (save a b) p =
      let d = lasts_save t e p a in
      let q = on t e.lasts (omega (arith, window_round σ fits)) in
      rw (p.save_at, eq-eqb (t % round σ) σ.beat a) (same (omega arith) (omega arith))

  reaches : (pre : List Step) (y : Step) (ys : List Step) (t : ℕ) (v : List ℕ) (m : Saved) → Since σ t (saved_tick m) → StepsPlaced σ t (pre ++ y ∷ ys)
      → t + duration pre + y.lasts ≤ saved_tick (last_image pre t v m) + round σ
  reaches [] y ys t v m i p = rw (add-zero t) (ends t (saved_tick m) y i p.0)
  reaches (e ∷ pre) y ys t v m i p =
      let u = t + e.lasts in
      let w = on_variables e.does v in
      let k : Image = record { index = e.index + 1; tick = u; variables = w } in
      omega (arith, reaches pre y ys u w (cond (is_save e.does) (saved k) m) (next t e m k refl i p.0) p.1)

  pub few_twice : (pre : List Step) (y : Step) (ys : List Step) (v : List ℕ) → StepsPlaced σ 0 (pre ++ y ∷ ys)
      → duration pre + y.lasts ≤ saved_tick (last_image pre 0 v none) + σ.spacing * σ.window
  few_twice pre y ys v p = omega (arith, reaches pre y ys 0 v none (beat (zero-mod (round σ)) (omega (arith, window_round σ fits))) p)
