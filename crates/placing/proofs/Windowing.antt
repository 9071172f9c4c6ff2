-- Single ticks of SKIP, so many or up to a tick where a step ends, window by window: those left in a window, and the commands of the next.
use Prim.Native.Nat.{ℕ, zero, suc, ◌+◌, ◌-◌, ◌≤◌, ◌<◌}
use native.Mathlib.{Omega.arith, Nat.add-zero}
use mathlib.Core.Path.{◌≡◌, refl, ap, sym, subst, ◌∙◌}
use mathlib.Core.Bool.{Bool, true, false, cond, ◌&&◌, true≢false}
use lib.Dec.{ltb, leb}
use borrow.Author.Tests.{ltb-true, ltb-false, le-ltb, leb-true, le-leb}
use Rattle.model.specs.declared.Settings.{Settings}
use Rattle.model.specs.Trees.{Block, nil, skip, ◌⧺◌, size}
use Rattle.model.specs.{Times.time, Times.longest, Equalising.merge}
use Rattle.model.specs.Layout.{commands, before, idle, idles, fill}
use Rattle.theory.specs.Windows.{Free}
use Rattle.laws.proofs.{Shapes.and_left, Shapes.and_right, Trees.⧺-assoc}
use Rattle.theory.proofs.{Times.time-⧺, Windows.commands_before}
use Rattle.records.specs.Blocks.{skip_records}
use Rattle.records.proofs.Blocks.{one_skip}
use Rattle.placing.specs.declared.clock.State.{State}
use Rattle.placing.specs.States.{cap, Layable, Shows, Laying, After, Idled, Skipped, Fillable, FillCounted}
use Rattle.placing.proofs.Settling.{Alike, alike_eq, alike_sym, alike_trans, alike-⧺, alike_skip, size_settled, size_merge, waits-⧺}
use Rattle.placing.proofs.{Going.after_nil, Going.after-⧺, Going.after_alike, Ticking.commands_due, Ticking.before_waits, Ticking.before_none}
use Rattle.placing.proofs.{Moves.on, Moves.shows_on}
use Rattle.placing.proofs.Filling.{idles_filled, fill_more, before_on, ticks_on}

-- more ticks than there are up to e change nothing
pub fill_enough : (σ : Settings) (m n t e : ℕ) → e ≤ t + m → e ≤ t + n → fill σ m t e ≡ fill σ n t e
fill_enough σ zero zero t e h k = refl
fill_enough σ zero (suc n) t e h k = sym (rw (le-ltb t e (omega arith)))
fill_enough σ (suc m) zero t e h k = rw (le-ltb t e (omega arith))
fill_enough σ (suc m) (suc n) t e h k = go (ltb t e) (fill_enough σ m n u e)
  where
    u : ℕ
    u = t + time σ (idle σ t)

    z : time σ (idle σ t) ≡ time σ (before σ t 1) + 1
    z = time-⧺ σ (before σ t 1) (skip 1 nil)

    go : (o : Bool) → (e ≤ u + m → e ≤ u + n → fill σ m u e ≡ fill σ n u e) → cond o (idle σ t ⧺ fill σ m u e) nil ≡ cond o (idle σ t ⧺ fill σ n u e) nil
    go true rest = ap (λ (c : Block). idle σ t ⧺ c) (rest (omega (arith, z)) (omega (arith, z)))
    go false rest = refl

-- the SKIP up to the next multiple of H, and its commands
abbrev pub to_next : Settings → State → Block
to_next σ s = skip s.ticks_left (commands σ (s.tick + s.ticks_left))

module _ {σ : Settings} (L : Layable σ) {s : State} (S : Shows σ s) where
  -- at that multiple nothing but its commands stands before a tick
  at_next : Alike σ (commands σ (s.tick + s.ticks_left)) (before σ (s.tick + s.ticks_left) 1)
  at_next =
      let b = s.tick + s.ticks_left in
      let T = shows_on {r = on s s.ticks_left s.wait s.records} s.ticks_left S refl (omega arith) refl (omega (arith, S.waited)) S.few in
      let z : s.ticks_left - s.ticks_left ≡ 0 = omega arith in
      let w = before_waits L T 1 (omega arith) (omega (arith, L.fits.positive.set_lasts)) in
      let v = subst (λ (x : ℕ). Alike σ (skip x (commands σ (b + x))) (before σ b 1)) z w in
      alike_trans (alike_sym (alike_skip (commands σ b))) (subst (λ (x : ℕ). Alike σ (skip 0 (commands σ x)) (before σ b 1)) (add-zero b) v)

  -- no more ticks than are left in the window
  pub fill_left : (e : ℕ) → s.tick ≤ e → e - s.tick ≤ s.ticks_left → Alike σ (skip (e - s.tick) nil) (fill σ (e - s.tick) s.tick e)
  fill_left e l h = ticks_on (e - s.tick) 0 (e - s.tick) s.tick e e (omega arith) (omega arith) (λ x k. (omega arith, before_on L S x (omega arith)))

  -- more, and the commands lead to r
  module _ {r : State} (A : After σ (to_next σ s) s r) (p : 1 ≤ r.ticks_left) where
    tick_next : r.tick ≡ s.tick + s.ticks_left + time σ (commands σ (s.tick + s.ticks_left))
    tick_next = omega (arith, A.tick)

    pub past_next : (k m e : ℕ) → k ≡ s.ticks_left + suc m → r.tick < e → Alike σ (to_next σ s ⧺ fill σ (suc m) r.tick e) (fill σ k s.tick e)
    past_next k m e h l =
        let b = s.tick + s.ticks_left in
        let x : fill σ (suc m) r.tick e ≡ skip 1 (fill σ m (r.tick + 1) e) =
        let n = before_none L A.shows 1 (omega arith) p in
        fill_more σ m r.tick r.tick e l (omega (arith, ap (time σ) n)) ∙ ap (λ (c : Block). c ⧺ skip 1 (fill σ m (r.tick + 1) e)) n in
        let y : fill σ (suc m) b e ≡ before σ b 1 ⧺ skip 1 (fill σ m (r.tick + 1) e) =
        fill_more σ m b r.tick e (omega (arith, tick_next)) (omega (arith, tick_next, at_next.lasts)) in
        let w : Alike σ (commands σ b ⧺ fill σ (suc m) r.tick e) (fill σ (suc m) b e) =
        alike_trans (alike-⧺ _ _ at_next (alike_eq x)) (alike_eq (sym y)) in
        alike_trans (alike-⧺ {a = skip s.ticks_left nil} {b = skip s.ticks_left nil} _ _ (alike_eq refl) w)
        (ticks_on s.ticks_left (suc m) k s.tick b e h refl (λ v j. (omega (arith, tick_next), before_on L S v j)))

-- SKIPS

module _ {σ : Settings} (L : Layable σ) {s : State} (S : Shows σ s) where
  -- no more than are left in the window
  pub idles_left : (k : ℕ) → k ≤ s.ticks_left → Alike σ (skip k nil) (idles σ k s.tick)
  idles_left k h =
      let e = s.tick + k + time σ (idles σ k s.tick) in
      alike_trans
      (ticks_on k 0 k s.tick (s.tick + k) e (omega arith) refl (λ x l. (omega arith, before_on L S x (omega arith))))
      (alike_eq (idles_filled σ k s.tick e (omega arith)))

  -- more, and the commands lead to r
  pub idles_next : {r : State} → After σ (to_next σ s) s r → longest σ ≤ r.ticks_left → (k : ℕ) → s.ticks_left < k
      → Alike σ (to_next σ s ⧺ idles σ (k - s.ticks_left) r.tick) (idles σ k s.tick)
  idles_next {r} A p k h =
      let j = k - s.ticks_left in
      let m = j - 1 in
      let z : j ≡ suc m = omega arith in
      let e = s.tick + time σ (idles σ k s.tick) + (r.tick + time σ (idles σ j r.tick)) + 1 in
      alike_trans
      (alike_eq (ap (λ (c : Block). to_next σ s ⧺ c) (sym (idles_filled σ j r.tick e (omega arith)) ∙ ap (λ (i : ℕ). fill σ i r.tick e) z)))
      (alike_trans
      (past_next L S A (omega (arith, L.fits.positive.set_lasts)) k m e (omega arith) (omega arith))
      (alike_eq (idles_filled σ k s.tick e (omega arith))))

-- of `count` ticks of SKIP from `from` on, those that are done lead to s, and k are left
pub record Skipping (σ : Settings) (count : ℕ) (from s : State) (k : ℕ) : Type 0 where
  pub settings : Layable σ
  pub done : Block
  pub after : After σ done from s
  pub rest : Alike σ (done ⧺ idles σ k s.tick) (idles σ count from.tick)

module _ {σ : Settings} {count : ℕ} where
  pub skipping_start : {s : State} → Laying σ s → Skipping σ count s s count
  skipping_start L = record { settings = L.settings; done = nil; after = after_nil L.shows; rest = alike_eq refl }

  module _ {from s : State} {k : ℕ} (K : Skipping σ count from s k) where
    -- more than are left
    module _ (t : (ltb s.ticks_left k && leb s.tick σ.period) ≡ true) where
      pub skipping_more : s.ticks_left < k
      skipping_more = ltb-true s.ticks_left k (and_left (ltb s.ticks_left k) (leb s.tick σ.period) t)

      pub skipping_laying : Laying σ s
      skipping_laying = record {
        settings = K.settings;
        shows = K.after.shows;
        within = leb-true s.tick σ.period (and_right (ltb s.ticks_left k) (leb s.tick σ.period) t);
      }

      module _ {r : State} (A : After σ (to_next σ s) s r) (p : longest σ ≤ r.ticks_left) where
        pub skipping_less : σ.period + 1 - r.tick < σ.period + 1 - s.tick
        skipping_less =
            omega (arith, skipping_laying.within, A.tick, ap (time σ) (commands_due K.settings K.after.shows), K.settings.fits.positive.beat_lasts)

        pub skipping_next : Skipping σ count from r (k - s.ticks_left)
        skipping_next = record {
          settings = K.settings;
          done = K.done ⧺ to_next σ s;
          after = after-⧺ K.done (to_next σ s) K.after A;
          rest = alike_trans
              (alike_eq (⧺-assoc K.done (to_next σ s) (idles σ (k - s.ticks_left) r.tick)))
              (alike_trans (alike-⧺ {a = K.done} {b = K.done} _ _ (alike_eq refl) (idles_next K.settings K.after.shows A p k skipping_more)) K.rest);
        }

    -- given up
    pub skipping_late : σ.period < s.tick → Skipped σ count from s
    skipping_late h = record { late = λ l. h; after = λ l. absurd (omega (arith, K.after.tick, K.rest.lasts, time-⧺ σ K.done (idles σ k s.tick))); few = K.after.shows.few }

    -- no more
    module _ (t : (ltb s.ticks_left k && leb s.tick σ.period) ≡ false) (h : s.tick ≤ σ.period) where
      pub skipping_few : k ≤ s.ticks_left
      skipping_few = go (ltb s.ticks_left k) refl t
        where
          go : (o : Bool) → ltb s.ticks_left k ≡ o → (o && leb s.tick σ.period) ≡ false → k ≤ s.ticks_left
          go true x y = absurd (true≢false (sym (le-leb s.tick σ.period h) ∙ y))
          go false x y = ltb-false s.ticks_left k x

      pub skipping_last : {r : State} → Idled s k r → Skipped σ count from r
      skipping_last {r} I = record { late = λ l. omega (arith, whole.tick); after = λ l. whole; few = whole.shows.few }
        where
          whole : After σ (idles σ count from.tick) from r
          whole =
              after_alike
              (alike_trans (alike-⧺ {a = K.done} {b = K.done} _ _ (alike_eq refl) (idles_left K.settings K.after.shows k skipping_few)) K.rest)
              (after-⧺ K.done (skip k nil) K.after (I.after σ K.after.shows))

-- FILLING

module _ {σ : Settings} {e : ℕ} {s : State} (F : Fillable σ s e) where
  -- more ticks than are left in the window
  module _ (h : s.ticks_left < e - s.tick) {r : State} (A : After σ (to_next σ s) s r) (p : longest σ ≤ r.ticks_left) where
    before_end : r.tick < e
    before_end =
        let b = s.tick + s.ticks_left in
        let z : b + (e - b) ≡ e = omega arith in
        let c = commands_before σ F.laying.settings.fits b (e - b) F.laying.shows.bound (omega arith) (subst (Free σ 1) (sym z) F.free) in
        omega (arith, A.tick)

    pub fill_less : e - r.tick < e - s.tick
    fill_less =
        omega (arith, before_end, A.tick, ap (time σ) (commands_due F.laying.settings F.laying.shows), F.laying.settings.fits.positive.beat_lasts)

    pub fillable_next : Fillable σ r e
    fillable_next = record {
      laying = record { settings = F.laying.settings; shows = A.shows; within = omega (arith, before_end, F.upto) };
      reaches = omega (arith, before_end);
      upto = F.upto;
      free = F.free;
    }

    pub fill_next : Alike σ (to_next σ s ⧺ fill σ (e - r.tick) r.tick e) (fill σ (e - s.tick) s.tick e)
    fill_next =
        let m = e - s.tick - s.ticks_left - 1 in
        alike_trans
        (alike_eq (ap (λ (c : Block). to_next σ s ⧺ c) (fill_enough σ (e - r.tick) (suc m) r.tick e (omega arith) (omega (arith, A.tick)))))
        (past_next F.laying.settings F.laying.shows A (omega (arith, F.laying.settings.fits.positive.set_lasts)) (e - s.tick) m e (omega arith) before_end)

  -- no more
  pub fill_last : e - s.tick ≤ s.ticks_left → Alike σ (skip (e - s.tick) nil) (fill σ (e - s.tick) s.tick e)
  fill_last h = fill_left F.laying.settings F.laying.shows e F.reaches h

-- of the ticks of SKIP from `from` up to e, those that are done lead to s
pub record Filling (σ : Settings) (e : ℕ) (from s : State) : Type 0 where
  pub can : Fillable σ s e
  pub done : Block
  pub after : After σ done from s
  pub rest : Alike σ (done ⧺ fill σ (e - s.tick) s.tick e) (fill σ (e - from.tick) from.tick e)

module _ {σ : Settings} {e : ℕ} where
  pub filling_start : {s : State} → Fillable σ s e → Filling σ e s s
  filling_start F = record { can = F; done = nil; after = after_nil F.laying.shows; rest = alike_eq refl }

  module _ {from s : State} (F : Filling σ e from s) where
    -- more than are left
    module _ (t : (ltb s.ticks_left (e - s.tick) && ltb s.records 5462) ≡ true) {r : State} (A : After σ (to_next σ s) s r) (p : longest σ ≤ r.ticks_left) where
      h : s.ticks_left < e - s.tick
      h = ltb-true s.ticks_left (e - s.tick) (and_left (ltb s.ticks_left (e - s.tick)) (ltb s.records 5462) t)

      pub filling_less : e - r.tick < e - s.tick
      filling_less = fill_less F.can h A p

      pub filling_next : Filling σ e from r
      filling_next = record {
        can = fillable_next F.can h A p;
        done = F.done ⧺ to_next σ s;
        after = after-⧺ F.done (to_next σ s) F.after A;
        rest = alike_trans
            (alike_eq (⧺-assoc F.done (to_next σ s) (fill σ (e - r.tick) r.tick e)))
            (alike_trans (alike-⧺ {a = F.done} {b = F.done} _ _ (alike_eq refl) (fill_next F.can h A p)) F.rest);
      }

    -- no more
    pub filling_last : e - s.tick ≤ s.ticks_left → Alike σ (F.done ⧺ skip (e - s.tick) nil) (fill σ (e - from.tick) from.tick e)
    filling_last h =
        alike_trans
        (alike-⧺ {a = F.done} {b = F.done} _ _ (alike_eq refl) (fill_last F.can h))
        F.rest

    -- the records are known, or more than a file can have
    module _ {n : ℕ} (k : n ≡ skip_records (s.wait + (e - s.tick))) where
      abbrev all : Block
      all = fill σ (e - from.tick) from.tick e

      counted_last : e - s.tick ≤ s.ticks_left → cap (s.records + n) ≡ cap (from.records + size (merge from.wait all))
      counted_last h =
          let A = filling_last h in
          let w = from.wait in
          let x = ap size (sym (A.settles w)) ∙ size_settled w F.done (skip (e - s.tick) nil) in
          let y = ap skip_records (sym (A.leaves w) ∙ waits-⧺ w F.done (skip (e - s.tick) nil) ∙ ap (λ (v : ℕ). v + (e - s.tick)) (sym F.after.wait)) in
          omega (arith, size_merge w all, x, y, F.after.records)

      counted_full : 5462 ≤ s.records → cap (s.records + n) ≡ cap (from.records + size (merge from.wait all))
      counted_full h =
          let w = from.wait in
          let x = ap size (sym (F.rest.settles w)) ∙ size_settled w F.done (fill σ (e - s.tick) s.tick e) in
          omega (arith, size_merge w all, x, F.after.records)

      pub filling_counted : (ltb s.ticks_left (e - s.tick) && ltb s.records 5462) ≡ false → FillCounted σ from e (s.records + n)
      filling_counted h = record {
        few = omega (arith, F.can.laying.shows.few, one_skip (s.wait + (e - s.tick)));
        counts = go (ltb s.ticks_left (e - s.tick)) refl h;
      }
        where
          go : (o : Bool) → ltb s.ticks_left (e - s.tick) ≡ o → (o && ltb s.records 5462) ≡ false → cap (s.records + n) ≡ cap (from.records + size (merge from.wait all))
          go true x y = counted_full (ltb-false s.records 5462 y)
          go false x y = counted_last (ltb-false s.ticks_left (e - s.tick) x)
