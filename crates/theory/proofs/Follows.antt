-- A block goes by the ticks of its own acts, by B, S, K, H and P, and by no other number of the settings.
use Prim.Native.Nat.{ℕ, zero, suc, ◌+◌, ◌-◌, ◌%◌, max}
use mathlib.Core.Path.{◌≡◌, refl, ap, ◌∙◌}
use mathlib.Core.{Bool.cond, List.List}
use lib.{Dec.eqb, Dec.leb}
use Rattle.model.specs.declared.Settings.{Settings}
use Rattle.model.specs.Trees.{Test, Act, beat, Block, nil, skip, act, branch, while, times, ◌⧺◌, size}
use Rattle.model.specs.{Times.ticks, Times.time, Equalising.F, Equalising.pad, Equalising.merge, Equalising.equalise, Placement.Each}
use Rattle.model.specs.Layout.{unroll, commands, left, before, idle, idles, fill, filled, lay, opened, body, layout, total, last_value}
use Rattle.model.specs.Runs.{Effect, Run, ◌⊳◌, effect, single, choose, spin, rounds, run, last_test, variables_after}
use Rattle.model.specs.{Stopping.Image, Stopping.rest, Stopping.take_up, Listing.start_ticks}
use Rattle.theory.specs.Multiplying.{retimed, SameBlock}
use Rattle.theory.proofs.Each.{each_cond, each-⧺, each_unroll}
use Rattle.theory.proofs.Weaving.{Woven, woven_commands, woven_before, woven_idle, woven_idles, woven_fill, woven_each}

-- a block and the last BEAT after it
abbrev last_beat : Settings → Block → Block
last_beat σ c = c ⧺ act (beat (last_value σ (time σ c))) nil

module _ (σ : Settings) (set read write multiply : ℕ) where
  abbrev τ : Settings
  τ = retimed set read write multiply σ

  abbrev Same : Act → Type 0
  Same p = ticks τ p ≡ ticks σ p

  same_time : (b : Block) → Each Same b → time τ b ≡ time σ b
  same_time nil x = refl
  same_time (skip n b) x = rw (same_time b x)
  same_time (act p b) x = rw (x.0, same_time b x.1)
  same_time (branch q a d b) x = rw (same_time a x.0, same_time d x.1, same_time b x.2)
  same_time (while q n a b) x = rw (same_time a x.0, same_time b x.1)
  same_time (times q n a b) x = rw (same_time a x.0, same_time b x.1)

  -- EQUALISING

  each_f : (b : Block) → Each Same b → Each Same (F σ b)
  each_f nil x = tt
  each_f (skip n b) x = each_f b x
  each_f (act p b) x = (x.0, each_f b x.1)
  each_f (branch q a d b) x = (
    each-⧺ Same (F σ a) (pad (time σ (F σ d) - time σ (F σ a))) (each_f a x.0) tt,
    each-⧺ Same (F σ d) (pad (time σ (F σ a) - time σ (F σ d))) (each_f d x.1) tt,
    each_f b x.2,
  )
  each_f (while q n a b) x = ((each_f a x.0, tt, tt), each_f b x.1)
  each_f (times q n a b) x = (each_f a x.0, each_f b x.1)

  same_f : (b : Block) → Each Same b → F τ b ≡ F σ b
  same_f nil x = refl
  same_f (skip n b) x = rw (same_f b x)
  same_f (act p b) x = rw (same_f b x.1)
  same_f (branch q a d b) x =
      rw (same_f a x.0, same_f d x.1, same_f b x.2, same_time (F σ a) (each_f a x.0), same_time (F σ d) (each_f d x.1))
  same_f (while q n a b) x = rw (same_f a x.0, same_f b x.1, same_time (F σ a) (each_f a x.0))
  same_f (times q n a b) x = rw (same_f a x.0, same_f b x.1)

  same_equalised : (b : Block) → Each Same b → equalise τ b ≡ equalise σ b
  unfolding equalise
  same_equalised b x = rw (same_f b x)

  -- LAYING OUT

  -- what laying out adds to a block
  each_added : {c : Block} → Woven nil c → Each Same c
  each_added w = woven_each Same refl refl w tt

  same_before : (t d : ℕ) → before τ t d ≡ before σ t d
  unfolding before
  same_before t d = rw (same_time (commands σ t) (each_added (woven_commands σ t)))

  same_idles : (n t : ℕ) → idles τ n t ≡ idles σ n t
  same_idles zero t = refl
  same_idles (suc n) t = rw (same_before t 1, same_time (idle σ t) (each_added (woven_idle σ t)), same_idles n (t + time σ (idle σ t)))

  same_fill : (n t e : ℕ) → fill τ n t e ≡ fill σ n t e
  same_fill zero t e = refl
  same_fill (suc n) t e = rw (same_before t 1, same_time (idle σ t) (each_added (woven_idle σ t)), same_fill n (t + time σ (idle σ t)) e)

  each_filled : (t : ℕ) (a : Block) (e : ℕ) → Each Same a → Each Same (filled σ t a e)
  each_filled t a e x = each-⧺ Same a _ x (each_added (woven_fill σ (e - (t + time σ a)) (t + time σ a) e))

  each_lay : (b : Block) (t : ℕ) → Each Same b → Each Same (lay σ b t)
  each_lay nil t x = tt
  each_lay (skip n b) t x = each-⧺ Same (idles σ n t) _ (each_added (woven_idles σ n t)) (each_lay b (t + time σ (idles σ n t)) x)
  each_lay (act p b) t x =
      each-⧺ Same (before σ t (ticks σ p)) _ (each_added (woven_before σ t (ticks σ p))) (x.0, each_lay b (t + time σ (before σ t (ticks σ p)) + ticks σ p) x.1)
  each_lay (branch q a d b) t x =
      let u = t + time σ (before σ t 1) in
      let e = u + 1 + max (time σ (lay σ a (u + 1))) (time σ (lay σ d (u + 1))) in
      each-⧺ Same (before σ t 1) (branch q (filled σ (u + 1) (lay σ a (u + 1)) e) (filled σ (u + 1) (lay σ d (u + 1)) e) (lay σ b e)) (each_added (woven_before σ t 1)) (
        each_filled (u + 1) (lay σ a (u + 1)) e (each_lay a (u + 1) x.0),
        each_filled (u + 1) (lay σ d (u + 1)) e (each_lay d (u + 1) x.1),
        each_lay b e x.2,
      )
  each_lay (while q n a b) t x = x
  each_lay (times q n a b) t x = x

  same_lay : (b : Block) (t : ℕ) → Each Same b → lay τ b t ≡ lay σ b t
  same_lay nil t x = refl
  same_lay (skip n b) t x = rw (same_idles n t, same_time (idles σ n t) (each_added (woven_idles σ n t)), same_lay b (t + time σ (idles σ n t)) x)
  same_lay (act p b) t x =
      rw (
        x.0,
        same_before t (ticks σ p),
        same_time (before σ t (ticks σ p)) (each_added (woven_before σ t (ticks σ p))),
        same_lay b (t + time σ (before σ t (ticks σ p)) + ticks σ p) x.1,
      )
  same_lay (branch q a d b) t x =
      let u = t + time σ (before σ t 1) in
      let e = u + 1 + max (time σ (lay σ a (u + 1))) (time σ (lay σ d (u + 1))) in
      rw (
        same_before t 1,
        same_time (before σ t 1) (each_added (woven_before σ t 1)),
        same_lay a (u + 1) x.0,
        same_lay d (u + 1) x.1,
        same_time (lay σ a (u + 1)) (each_lay a (u + 1) x.0),
        same_time (lay σ d (u + 1)) (each_lay d (u + 1) x.1),
        same_fill (e - (u + 1 + time σ (lay σ a (u + 1)))) (u + 1 + time σ (lay σ a (u + 1))) e,
        same_fill (e - (u + 1 + time σ (lay σ d (u + 1)))) (u + 1 + time σ (lay σ d (u + 1))) e,
        same_lay b e x.2,
      )
  same_lay (while q n a b) t x = refl
  same_lay (times q n a b) t x = refl

  each_body : (b : Block) → Each Same b → Each Same (body σ b)
  each_body b x =
      let t = time σ (opened σ b) in
      each-⧺ Same (opened σ b) (cond (eqb (t % σ.window) 0) nil (skip (left σ t) nil)) (refl, (refl, each_lay b (σ.beat + σ.save) x))
      (each_cond Same (eqb (t % σ.window) 0) nil (skip (left σ t) nil) tt tt)

  same_body : (b : Block) → Each Same b → body τ b ≡ body σ b
  same_body b x =
      let t = σ.beat + σ.save in
      rw (same_lay b t x, same_time (lay σ b t) (each_lay b t x))

  same_last : (c : Block) → Each Same c → last_beat τ c ≡ last_beat σ c
  unfolding last_value
  same_last c x = rw (same_time c x)

  same_layout : (b : Block) → Each Same b → layout τ b ≡ layout σ b
  unfolding layout
  same_layout b x =
      let y = each_unroll Same (λ q. refl) b x in
      ap (λ c. merge 0 (last_beat τ c)) (same_body (unroll b) y) ∙ ap (merge 0) (same_last (body σ (unroll b)) (each_body (unroll b) y))

  same_total : (b : Block) → Each Same b → total τ b ≡ total σ b
  unfolding total
  same_total b x =
      let y = each_unroll Same (λ q. refl) b x in
      ap (λ c. time τ c + σ.beat) (same_body (unroll b) y) ∙ ap (λ n. n + σ.beat) (same_time (body σ (unroll b)) (each_body (unroll b) y))

  -- RUNS

  same_spin : {f g : Run} (i n : ℕ) (q : Test) → ((v : List ℕ) → f v ≡ g v) → (v : List ℕ) → spin i n q f v ≡ spin i n q g v
  same_spin i zero q h v = refl
  same_spin {f} {g} i (suc n) q h v = rw (h v, same_spin i n q h (variables_after (g v) v))

  same_rounds : {f g : Run} (n : ℕ) → ((v : List ℕ) → f v ≡ g v) → (v : List ℕ) → rounds n f v ≡ rounds n g v
  same_rounds zero h v = refl
  same_rounds {f} {g} (suc n) h v = rw (h v, same_rounds n h (variables_after (g v) v))

  same-⊳ : {f f' g g' : Run} → ((v : List ℕ) → f' v ≡ f v) → ((v : List ℕ) → g' v ≡ g v) → (v : List ℕ) → (f' ⊳ g') v ≡ (f ⊳ g) v
  same-⊳ {f} h k v = rw (h v, k (variables_after (f v) v))

  same_single : (p : Act) → Same p → (i : ℕ) (w : List ℕ → Effect) (v : List ℕ) → single (ticks τ p) i w v ≡ single (ticks σ p) i w v
  same_single p h i w v = rw h

  same_choose : {f f' g g' : Run} (i : ℕ) (q : Test) → ((v : List ℕ) → f' v ≡ f v) → ((v : List ℕ) → g' v ≡ g v) → (v : List ℕ)
      → choose i q f' g' v ≡ choose i q f g v
  same_choose i q h k v = rw (h v, k v)

  same_run : (ins : List ℕ) (b : Block) (i : ℕ) → Each Same b → (v : List ℕ) → run τ ins b i v ≡ run σ ins b i v
  same_run ins nil i x v = refl
  same_run ins (skip n b) i x v = rw (same_run ins b (i + 1) x v)
  same_run ins (act p b) i x v = same-⊳ (same_single p x.0 i (effect ins p)) (same_run ins b (i + 1) x.1) v
  same_run ins (branch q a d b) i x v =
      same-⊳ (same_choose i q (same_run ins a (i + 1) x.0) (same_run ins d (i + 2 + size a) x.1)) (same_run ins b (i + 3 + size a + size d) x.2) v
  same_run ins (while q n a b) i x v = same-⊳ (same_spin i n q (same_run ins a (i + 1) x.0)) (same_run ins b (i + 2 + size a) x.1) v
  same_run ins (times q n a b) i x v =
      same-⊳ (same-⊳ {g = single 1 i (last_test q)} (same_rounds n (same_run ins a (i + 1) x.0)) (λ w. refl)) (same_run ins b (i + 2 + size a) x.1) v

  -- TAKING UP, AND STARTS

  each_rest : (b : Block) (j : ℕ) → Each Same b → Each Same (rest b j)
  each_rest nil j x = tt
  each_rest (skip n b) zero x = x
  each_rest (skip n b) (suc j) x = each_rest b j x
  each_rest (act p b) zero x = x
  each_rest (act p b) (suc j) x = each_rest b j x.1
  each_rest (branch q a d b) zero x = x
  each_rest (branch q a d b) (suc j) x =
      let k = j - (1 + size a) in
      let l = j - (2 + size a + size d) in
      each_cond Same (leb j (size a)) (rest a j ⧺ b) (cond (leb j (1 + size a + size d)) (rest d k ⧺ b) (rest b l))
      (each-⧺ Same (rest a j) b (each_rest a j x.0) x.2)
      (each_cond Same (leb j (1 + size a + size d)) (rest d k ⧺ b) (rest b l) (each-⧺ Same (rest d k) b (each_rest d k x.1) x.2) (each_rest b l x.2))
  each_rest (while q n a b) j x = x
  each_rest (times q n a b) j x = x

  same_taken_up : (ins : List ℕ) (b : Block) → Each Same b → (i : Image) → take_up τ ins b i ≡ take_up σ ins b i
  unfolding take_up
  same_taken_up ins b x i = same_run ins (rest b i.index) i.index (each_rest b i.index x) i.variables

  same_starts : (b : Block) (t : ℕ) → Each Same b → start_ticks τ b t ≡ start_ticks σ b t
  same_starts nil t x = refl
  same_starts (skip n b) t x = rw (same_starts b (t + n) x)
  same_starts (act p b) t x = rw (x.0, same_starts b (t + ticks σ p) x.1)
  same_starts (branch q a d b) t x =
      let e = t + 1 + max (time σ a) (time σ d) in
      rw (same_time a x.0, same_time d x.1, same_starts a (t + 1) x.0, same_starts d (t + 1) x.1, same_starts b e x.2)
  same_starts (while q n a b) t x = refl
  same_starts (times q n a b) t x = refl

  pub follow : (b : Block) → Each Same b → SameBlock σ τ b
  follow b x = record {
    times = same_time b x;
    equalised = same_equalised b x;
    laid = same_layout b x;
    totals = same_total b x;
    steps = λ ins i v. same_run ins b i x v;
    taken_up_is = λ ins i. same_taken_up ins b x i;
    starts = λ t. same_starts b t x;
  }
