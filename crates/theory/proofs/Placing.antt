-- The runs of a block in place are in place, and merging keeps a block in place.
use Prim.Native.Nat.{ℕ, zero, suc, ◌+◌, ◌%◌, max, ◌≤◌, ◌<◌}
use native.Mathlib.{Omega.arith, Nat.add-zero, Nat.add_assoc, Nat.zero-add}
use mathlib.Core.Path.{◌≡◌, refl, sym, ◌∙◌}
use mathlib.Core.Bool.{Bool, true, false, cond, false≢true}
use mathlib.Core.List.{List, [], ◌∷◌, ◌++◌, append-nil}
use lib.Dec.{ltb}
use borrow.Author.Tests.{ltb-true, ltb-false, eqb-false}
use Rattle.model.specs.declared.Settings.{Settings}
use Rattle.model.specs.Trees.{Act, set, read, write, check, beat, save, Block, nil, skip, act, branch, while, times, size}
use Rattle.model.specs.{Times.ticks, Times.time, Equalising.waiting, Equalising.merge}
use Rattle.model.specs.Runs.{Effect, nothing, overruns, is_beat, is_save, Step, duration, variables_after, overran, holds, effect, Run, ◌⊳◌, single, choose, run}
use Rattle.model.specs.Placement.{command, LoopFree, InPlace, StepsPlaced, Placed}
use Rattle.theory.proofs.{Times.time_merge, Sequences.either, Clock.mod_within, Clock.mod_over}
use Rattle.theory.proofs.Lasts.{Lasts, lasts_single, lasts_if, Even, even_lasts}

module _ (σ : Settings) where
  pub placed_even : (b : Block) (t : ℕ) → Placed σ b t → Even σ b
  placed_even nil t p = tt
  placed_even (skip n b) t p = placed_even b (t + n) p.1
  placed_even (act q b) t p = placed_even b (t + ticks σ q) p.1
  placed_even (branch q a d b) t p =
      (p.3, placed_even a (t + 1) p.1, placed_even d (t + 1) p.2, placed_even b (t + 1 + max (time σ a) (time σ d)) p.4)
  placed_even (while q n a b) t p = p
  placed_even (times q n a b) t p = absurd p

  pub placed_loop_free : (b : Block) (t : ℕ) → Placed σ b t → LoopFree b
  placed_loop_free nil t p = tt
  placed_loop_free (skip n b) t p = placed_loop_free b (t + n) p.1
  placed_loop_free (act q b) t p = placed_loop_free b (t + ticks σ q) p.1
  placed_loop_free (branch q a d b) t p =
      (placed_loop_free a (t + 1) p.1, placed_loop_free d (t + 1) p.2, placed_loop_free b (t + 1 + max (time σ a) (time σ d)) p.4)
  placed_loop_free (while q n a b) t p = p
  placed_loop_free (times q n a b) t p = p

  -- RUNS

  -- a step's place depends only on whether it is a BEAT or a SAVE
  same_place : (t d : ℕ) (w x : Effect) → is_beat x ≡ is_beat w → is_save x ≡ is_save w → InPlace σ t d w → InPlace σ t d x
  same_place t d w x e f p = record {
    beat_at_is = e ∙ p.beat_at_is;
    save_at = f ∙ p.save_at;
    ends = p.ends;
    clear = λ z. p.clear (sym e ∙ z);
    beat_lasts = λ z. p.beat_lasts (sym e ∙ z);
    save_lasts = λ z. p.save_lasts (sym f ∙ z);
  }

  effect_place : (ins : List ℕ) (q : Act) (v : List ℕ) (t d : ℕ) → InPlace σ t d (command q) → InPlace σ t d (effect ins q v)
  unfolding effect
  effect_place ins (set o a l x) v t d = same_place t d nothing _ refl refl
  effect_place ins (read a x) v t d = same_place t d nothing _ refl refl
  effect_place ins (write a x) v t d = same_place t d nothing _ refl refl
  effect_place ins (check q) v t d = λ p. either (InPlace σ t d) (holds q v) overruns nothing (same_place t d nothing overruns refl refl p) p
  effect_place ins (beat x) v t d = λ p. p
  effect_place ins (save m) v t d = λ p. p

  steps-++ : (xs ys : List Step) (t : ℕ) → StepsPlaced σ t xs → StepsPlaced σ (t + duration xs) ys → StepsPlaced σ t (xs ++ ys)
  steps-++ [] ys t p q = rw (add-zero t) at q
  steps-++ (e ∷ xs) ys t p q = (p.0, steps-++ xs ys (t + e.lasts) p.1 (rw (← add_assoc t e.lasts (duration xs)) at q))

  steps-⊳ : (f g : Run) (n t : ℕ) → Lasts f n → ((v : List ℕ) → StepsPlaced σ t (f v)) → ((v : List ℕ) → StepsPlaced σ (t + n) (g v))
      → (v : List ℕ) → StepsPlaced σ t ((f ⊳ g) v)
  steps-⊳ f g n t l p q v = go (overran (f v)) refl
    where
      go : (o : Bool) → overran (f v) ≡ o → StepsPlaced σ t (f v ++ cond o [] (g (variables_after (f v) v)))
      go true e = rw append-nil (p v)
      go false e = steps-++ (f v) _ t (p v) (rw (l.in_all v e) (q (variables_after (f v) v)))

  module _ (ins : List ℕ) where
    pub placed_run : (b : Block) (t i : ℕ) → Placed σ b t → (v : List ℕ) → StepsPlaced σ t (run σ ins b i v)
    placed_run nil t i p = λ v. tt
    placed_run (skip n b) t i p =
        steps-⊳ (single n i (λ v. nothing)) (run σ ins b (i + 1)) n t (lasts_single n i (λ v. nothing))
        (λ v. (p.0, tt)) (placed_run b (t + n) (i + 1) p.1)
    placed_run (act q b) t i p =
        steps-⊳ (single (ticks σ q) i (effect ins q)) (run σ ins b (i + 1)) (ticks σ q) t (lasts_single (ticks σ q) i (effect ins q))
        (λ v. (effect_place ins q v t (ticks σ q) p.0, tt)) (placed_run b (t + ticks σ q) (i + 1) p.1)
    placed_run (branch q a d b) t i p =
        let j = i + 2 + size a in
        let k = i + 3 + size a + size d in
        let x = even_lasts σ ins a (i + 1) (placed_even a (t + 1) p.1) in
        let y = even_lasts σ ins d j (placed_even d (t + 1) p.2) in
        let m = max (time σ a) (time σ d) in
        let A = placed_run a (t + 1) (i + 1) p.1 in
        let D = placed_run d (t + 1) j p.2 in
        steps-⊳ (choose i q (run σ ins a (i + 1)) (run σ ins d j)) (run σ ins b k) (1 + m) t (lasts_if q i x y p.3)
        (λ v. (p.0, either (StepsPlaced σ (t + 1)) (holds q v) _ _ (A v) (D v))) (rw (← add_assoc t 1 m) (placed_run b (t + 1 + m) k p.4))
    placed_run (while q n a b) t i p = absurd p
    placed_run (times q n a b) t i p = absurd p

  -- MERGING

  module _ (pos : 0 < σ.window) where
    -- two SKIPs in a row are one: no multiple of H stands between them, where a BEAT would start
    joined : (t n m : ℕ) → InPlace σ t n nothing → InPlace σ (t + n) m nothing → InPlace σ t (n + m) nothing
    joined t n m p q = record {
      beat_at_is = p.beat_at_is;
      save_at = p.save_at;
      ends = go (ltb (t % σ.window + n) σ.window) refl;
      clear = p.clear;
      beat_lasts = λ z. absurd (false≢true z);
      save_lasts = λ z. absurd (false≢true z);
    }
      where
        go : (o : Bool) → ltb (t % σ.window + n) σ.window ≡ o → t % σ.window + (n + m) ≤ σ.window
        go true e = omega (arith, mod_within σ.window pos t n (ltb-true (t % σ.window + n) σ.window e), q.ends)
        go false e =
            let l = ltb-false (t % σ.window + n) σ.window e in
            absurd (eqb-false ((t + n) % σ.window) 0 (sym q.beat_at_is) (mod_over σ.window pos t n (omega (arith, p.ends))))

    -- n ticks of SKIP that wait, and m more
    waits : (n t : ℕ) → InPlace σ t n nothing → Placed σ (waiting n nil) t
    waits zero t p = tt
    waits (suc n) t p = (p, tt)

    waits_more : (n m t : ℕ) → Placed σ (waiting n nil) t → InPlace σ (t + n) m nothing → Placed σ (waiting (n + m) nil) t
    waits_more zero m t w p = rw (zero-add m) (waits m t (rw (add-zero t) at p))
    waits_more (suc n) m t w p = waits (suc n + m) t (joined t (suc n) m w.0 p)

    then : (n : ℕ) (b : Block) (t : ℕ) → Placed σ (waiting n nil) t → Placed σ b (t + n) → Placed σ (waiting n b) t
    then zero b t w p = rw (add-zero t) at p
    then (suc n) b t w p = (w.0, p)

    merging : (b : Block) (n t : ℕ) → Placed σ (waiting n nil) t → Placed σ b (t + n) → Placed σ (merge n b) t
    merging nil n t w p = w
    merging (skip m b) n t w p = merging b (n + m) t (waits_more n m t w p.0) (rw (← add_assoc t n m) p.1)
    merging (act q b) n t w p =
        let u = t + n + ticks σ q in
        then n (act q (merge 0 b)) t w (p.0, merging b 0 u tt (rw (add-zero u) p.1))
    merging (branch q a d b) n t w p =
        let u = t + n + 1 in
        let e = u + max (time σ a) (time σ d) in
        let x : time σ (merge 0 a) ≡ time σ a = time_merge σ a 0 ∙ zero-add (time σ a) in
        let y : time σ (merge 0 d) ≡ time σ d = time_merge σ d 0 ∙ zero-add (time σ d) in
        then n (branch q (merge 0 a) (merge 0 d) (merge 0 b)) t w (
          p.0,
          merging a 0 u tt (rw (add-zero u) p.1),
          merging d 0 u tt (rw (add-zero u) p.2),
          x ∙ p.3 ∙ sym y,
          rw (x, y) (merging b 0 e tt (rw (add-zero e) p.4)),
        )
    merging (while q m a b) n t w p = absurd p
    merging (times q m a b) n t w p = absurd p

    pub placed_merge : (b : Block) (t : ℕ) → Placed σ b t → Placed σ (merge 0 b) t
    placed_merge b t p = merging b 0 t tt (rw (add-zero t) p)
