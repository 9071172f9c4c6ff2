-- The start ticks of the BEATs and SAVEs among steps in place, as exact lists.
use Prim.Native.Nat.{ℕ, zero, suc, ◌+◌, ◌*◌, ◌-◌, ◌%◌, ◌/◌, ◌≤◌, ◌<◌}
use native.Mathlib.Omega.{arith}
use native.Mathlib.Nat.{add-zero, zero-add, add_assoc, add_comm, mod-le, mod-eq_of_lt, div-add-mod, mul-mod_right, mul-add-mod_self_left}
use mathlib.Core.Path.{◌≡◌, refl, ap, sym, ◌∙◌}
use mathlib.Core.Bool.{Bool, true, false, cond}
use mathlib.Core.List.{List, [], ◌∷◌, ◌++◌, map, append-nil, append_assoc}
use lib.Dec.{eqb, leb, ltb}
use borrow.Author.Tests.{ltb-true, ltb-false, leb-true, leb-false, eqb-true, eqb-false, eq-eqb, ne_eqb}
use Rattle.model.specs.declared.Settings.{Settings}
use Rattle.model.specs.Runs.{Effect, is_beat, is_save, Step, starts, duration}
use Rattle.model.specs.{Placement.Fits, Placement.InPlace, Placement.StepsPlaced, Timeline.picks, Timeline.multiples, Timeline.EndsInBeat}
use Rattle.theory.specs.Windows.{round}
use Rattle.theory.proofs.Clock.{mod_within, mod_over}
use Rattle.theory.proofs.Windows.{window_pos, window_round, round_pos, round_small, window_on}

-- PICKED TICKS

picks-++ : (p : ℕ → Bool) (t m n : ℕ) → picks p t (m + n) ≡ picks p t m ++ picks p (t + m) n
picks-++ p t zero n = rw (zero-add n, add-zero t)
picks-++ p t (suc m) n =
    let e : suc m + n ≡ suc (m + n) = omega arith in
    let f : t + suc m ≡ t + 1 + m = omega arith in
    rw (e, f, append_assoc (cond (p t) (t ∷ []) []) (picks p (t + 1) m)) (ap (λ (l : List ℕ). cond (p t) (t ∷ []) [] ++ l) (picks-++ p (t + 1) m n))

picks_none : (p : ℕ → Bool) (t n : ℕ) → ((j : ℕ) → j < n → p (t + j) ≡ false) → picks p t n ≡ []
picks_none p t zero h = refl
picks_none p t (suc n) h =
    let e : p t ≡ false = rw (add-zero t) at (h 0 (omega arith)) in
    rw e (picks_none p (t + 1) n (λ j l. rw (add_assoc t 1 j, add_comm 1 j) (h (j + 1) (omega arith))))

-- ticks that q picks c ticks earlier
picks_later : (p q : ℕ → Bool) (c t n : ℕ) → ((u : ℕ) → p (c + u) ≡ q u) → picks p (c + t) n ≡ map (λ u. c + u) (picks q t n)
picks_later p q c t zero h = refl
picks_later p q c t (suc n) h = rw (h t, add_assoc c t 1) (go (q t) (picks_later p q c (t + 1) n h))
  where
    go : (o : Bool) → picks p (c + (t + 1)) n ≡ map (λ u. c + u) (picks q (t + 1) n)
        → cond o ((c + t) ∷ []) [] ++ picks p (c + (t + 1)) n ≡ map (λ u. c + u) (cond o (t ∷ []) [] ++ picks q (t + 1) n)
    go true e = ap (λ (l : List ℕ). (c + t) ∷ l) e
    go false e = e

-- A step from t on that `is` tells by what it does and `at` by its tick: of its ticks at most the first is picked.
record Told (is : Effect → Bool) (at : ℕ → Bool) (t : ℕ) (e : Step) : Type 0 where
  here : is e.does ≡ at t
  lasts : at t ≡ true → 1 ≤ e.lasts
  inside : (j : ℕ) → 0 < j → j < e.lasts → at (t + j) ≡ false

picks_step : (at : ℕ → Bool) (t d : ℕ) → (at t ≡ true → 1 ≤ d) → ((j : ℕ) → 0 < j → j < d → at (t + j) ≡ false) → picks at t d ≡ cond (at t) (t ∷ []) []
picks_step at t zero l h = go (at t) refl
  where
    go : (o : Bool) → at t ≡ o → ◌≡◌ {A = List ℕ} [] (cond o (t ∷ []) [])
    go true e = let x = l e in absurd (omega arith)
    go false e = refl
picks_step at t (suc d) l h =
    rw (picks_none at (t + 1) d (λ j k. rw (add_assoc t 1 j) (h (1 + j) (omega arith) (omega arith)))) (append-nil (cond (at t) (t ∷ []) []))

starts_picks : (σ : Settings) (is : Effect → Bool) (at : ℕ → Bool) → ((t : ℕ) (e : Step) → InPlace σ t e.lasts e.does → Told is at t e)
    → (es : List Step) (t : ℕ) → StepsPlaced σ t es → starts is t es ≡ picks at t (duration es)
starts_picks σ is at told [] t p = refl
starts_picks σ is at told (e ∷ es) t p =
    let k = told t e p.0 in
    rw (picks-++ at t e.lasts (duration es), picks_step at t e.lasts k.lasts k.inside, k.here)
    (ap (λ (l : List ℕ). cond (at t) (t ∷ []) [] ++ l) (starts_picks σ is at told es (t + e.lasts) p.1))

-- a step among steps in place
pub step_placed : (σ : Settings) (pre : List Step) (e : Step) (post : List Step) (t : ℕ) → StepsPlaced σ t (pre ++ e ∷ post)
    → InPlace σ (t + duration pre) e.lasts e.does
step_placed σ [] e post t p = rw (add-zero t) p.0
step_placed σ (x ∷ pre) e post t p = rw (← add_assoc t x.lasts (duration pre)) (step_placed σ pre e post (t + x.lasts) p.1)

-- no step goes on past a multiple of H
pub uncrossed : (σ : Settings) (pre : List Step) (e : Step) (post : List Step) (t : ℕ) → StepsPlaced σ t (pre ++ e ∷ post)
    → (t + duration pre) % σ.window + e.lasts ≤ σ.window
uncrossed σ pre e post t p = (step_placed σ pre e post t p).ends

-- the ticks where a BEAT, a SAVE and a round start
abbrev beat_due : Settings → ℕ → Bool
beat_due σ u = eqb (u % σ.window) 0

abbrev save_due : Settings → ℕ → Bool
save_due σ u = eqb (u % round σ) σ.beat

abbrev round_starts : Settings → ℕ → Bool
round_starts σ u = eqb (u % round σ) 0

-- each BEAT that is due before t ends before t
pub record Settled (σ : Settings) (t : ℕ) : Type 0 where
  pub over : (u : ℕ) → u % σ.window ≡ 0 → u < t → u + σ.beat < t

module _ (σ : Settings) (fits : Fits σ) where
  pub settled_start : Settled σ 0
  settled_start = record { over = λ u z l. absurd (omega arith) }

  -- so it is where a step ends that is no BEAT
  pub settled_after : (t d : ℕ) (w : Effect) → InPlace σ t d w → is_beat w ≡ false → 1 ≤ d → Settled σ (t + d)
  settled_after t d w p b l = record { over = λ u z h. go u z h (leb u (σ.window * (t / σ.window))) refl }
    where
      go : (u : ℕ) → u % σ.window ≡ 0 → u < t + d → (o : Bool) → leb u (σ.window * (t / σ.window)) ≡ o → u + σ.beat < t + d
      go u z h true e = omega (arith, leb-true u (σ.window * (t / σ.window)) e, div-add-mod t σ.window, p.clear b)
      go u z h false e =
          let q = t / σ.window in
          let r = u - σ.window * q in
          let k = leb-false u (σ.window * q) e in
          let x = div-add-mod t σ.window in
          let w : u ≡ σ.window * q + r = omega arith in
          let y : u % σ.window ≡ r = ap (λ (x : ℕ). x % σ.window) w ∙ mul-add-mod_self_left σ.window q r ∙ mod-eq_of_lt (omega (arith, p.ends)) in
          absurd (omega arith)

  -- a tick inside a step in place
  on : (t d j : ℕ) (w : Effect) → InPlace σ t d w → j < d → (t + j) % σ.window ≡ t % σ.window + j
  on t d j w p l = window_on σ fits t j (omega (arith, p.ends))

  -- where a SAVE starts, the BEAT before it ends
  after : (t : ℕ) → t % round σ ≡ σ.beat → t % σ.window ≡ σ.beat
  after t = round_small σ fits t σ.beat (omega arith)

  -- BEATs start at the multiples of H and at no other tick
  pub beat_starts : (es : List Step) (t : ℕ) → StepsPlaced σ t es → starts is_beat t es ≡ picks (λ u. eqb (u % σ.window) 0) t (duration es)
  beat_starts = starts_picks σ is_beat (beat_due σ) told
    where
      told : (t : ℕ) (e : Step) → InPlace σ t e.lasts e.does → Told is_beat (beat_due σ) t e
      told t e p = record {
        here = p.beat_at_is;
        lasts = λ z. omega (arith, p.beat_lasts (p.beat_at_is ∙ z));
        inside = λ j k l. ne_eqb ((t + j) % σ.window) 0 (λ z. omega (arith, on t e.lasts j e.does p l));
      }

  save_starts : (es : List Step) (t : ℕ) → StepsPlaced σ t es
      → starts is_save t es ≡ picks (λ u. eqb (u % (σ.spacing * σ.window)) σ.beat) t (duration es)
  save_starts = starts_picks σ is_save (save_due σ) told
    where
      -- in a BEAT it is too early for a SAVE, in another step too late
      inside : (t d j : ℕ) (w : Effect) → InPlace σ t d w → 0 < j → j < d → (t + j) % round σ ≡ σ.beat → ⊥
      inside t d j w p k l z = go (is_beat w) refl
        where
          go : (o : Bool) → is_beat w ≡ o → ⊥
          go true e = omega (arith, eqb-true (t % σ.window) 0 (sym p.beat_at_is ∙ e), p.beat_lasts e, on t d j w p l, after (t + j) z)
          go false e = omega (arith, p.clear e, on t d j w p l, after (t + j) z)

      told : (t : ℕ) (e : Step) → InPlace σ t e.lasts e.does → Told is_save (save_due σ) t e
      told t e p = record {
        here = p.save_at;
        lasts = λ z. omega (arith, p.save_lasts (p.save_at ∙ z));
        inside = λ j k l. ne_eqb ((t + j) % round σ) σ.beat (inside t e.lasts j e.does p k l);
      }

  -- B past a multiple of K × H
  lag : (t : ℕ) → eqb ((σ.beat + t) % round σ) σ.beat ≡ eqb (t % round σ) 0
  lag t = go (eqb (t % round σ) 0) refl
    where
      back : (σ.beat + t) % round σ ≡ σ.beat → t % round σ ≡ 0
      back z =
          let q = (σ.beat + t) / round σ in
          let w : t ≡ round σ * q = omega (arith, div-add-mod (σ.beat + t) (round σ)) in
          ap (λ (x : ℕ). x % round σ) w ∙ mul-mod_right (round σ) q

      go : (o : Bool) → eqb (t % round σ) 0 ≡ o → eqb ((σ.beat + t) % round σ) σ.beat ≡ o
      go true e =
          let z = eqb-true (t % round σ) 0 e in
          let w = mod_within (round σ) (round_pos σ fits) t σ.beat (omega (arith, window_round σ fits)) in
          eq-eqb ((σ.beat + t) % round σ) σ.beat (rw (add_comm σ.beat t) (omega arith))
      go false e = ne_eqb ((σ.beat + t) % round σ) σ.beat (λ z. eqb-false (t % round σ) 0 e (back z))

  -- no SAVE is due in the B ticks from a settled one on
  no_save : (t j : ℕ) → Settled σ t → j < σ.beat → (t + j) % round σ ≡ σ.beat → ⊥
  no_save t j s l z =
      let u = t + j - σ.beat in
      let e : t + j ≡ σ.beat + u = omega (arith, mod-le (t + j) (round σ)) in
      let due = eq-eqb ((σ.beat + u) % round σ) σ.beat (ap (λ (x : ℕ). x % round σ) (sym e) ∙ z) in
      let starts_round = eqb-true (u % round σ) 0 (sym (lag u) ∙ due) in
      omega (arith, s.over u (round_small σ fits u 0 (window_pos σ fits) starts_round) (omega arith))

  picks_lag : (t n : ℕ) → Settled σ t → picks (save_due σ) t n ≡ map (λ u. σ.beat + u) (picks (round_starts σ) t (n - σ.beat))
  picks_lag t n s = go (n - σ.beat) refl
    where
      none : (m : ℕ) → m ≤ σ.beat → picks (save_due σ) t m ≡ []
      none m l = picks_none (save_due σ) t m (λ j k. ne_eqb ((t + j) % round σ) σ.beat (no_save t j s (omega arith)))

      go : (m : ℕ) → n - σ.beat ≡ m → picks (save_due σ) t n ≡ map (λ u. σ.beat + u) (picks (round_starts σ) t m)
      go zero e = none n (omega arith)
      go (suc m) e =
          let x : n ≡ σ.beat + suc m = omega arith in
          ap (picks (save_due σ) t) x ∙ picks-++ (save_due σ) t σ.beat (suc m)
          ∙ rw (none σ.beat (omega arith), add_comm t σ.beat) (picks_later (save_due σ) (round_starts σ) σ.beat t (suc m) lag)

  -- from a settled tick on: B after each multiple of K × H below the end less B
  pub save_list : (es : List Step) (t : ℕ) → StepsPlaced σ t es → Settled σ t
      → starts is_save t es ≡ map (λ u. σ.beat + u) (multiples (σ.spacing * σ.window) t (t + duration es - σ.beat))
  save_list es t p s =
      let e : duration es - σ.beat ≡ t + duration es - σ.beat - t = omega arith in
      save_starts es t p ∙ picks_lag t (duration es) s ∙ ap (λ (n : ℕ). map (λ u. σ.beat + u) (picks (round_starts σ) t n)) e

  -- up to a settled tick: no multiple of K × H stands in the last B ticks
  pub save_list_cut : (es : List Step) (t : ℕ) → StepsPlaced σ t es → Settled σ t → Settled σ (t + duration es)
      → starts is_save t es ≡ map (λ u. σ.beat + u) (multiples (σ.spacing * σ.window) t (t + duration es))
  save_list_cut es t p s f =
      let n = t + duration es - σ.beat - t in
      let m = t + duration es - t - n in
      let e : t + duration es - t ≡ n + m = omega arith in
      let none = picks_none (round_starts σ) (t + n) m (λ j k. ne_eqb ((t + n + j) % round σ) 0 (no_round (t + n + j) (omega arith) (omega arith))) in
      let all : picks (round_starts σ) t n ++ picks (round_starts σ) (t + n) m ≡ picks (round_starts σ) t n = rw none (append-nil (picks (round_starts σ) t n)) in
      save_list es t p s ∙ ap (map (λ u. σ.beat + u)) (sym (ap (picks (round_starts σ) t) e ∙ picks-++ (round_starts σ) t n m ∙ all))
    where
      no_round : (u : ℕ) → t + duration es ≤ u + σ.beat → u < t + duration es → u % round σ ≡ 0 → ⊥
      no_round u g l z = omega (arith, f.over u (round_small σ fits u 0 (window_pos σ fits) z) l)

  -- up to n, where a BEAT of B ticks starts at the last multiple of H
  pub beat_list_is : (es : List Step) (t n : ℕ) → StepsPlaced σ t es → Settled σ t → n % σ.window ≡ 0 → t + duration es ≡ n + σ.beat
      → starts is_beat t es ≡ multiples σ.window t n ++ n ∷ []
  beat_list_is es t n p s z l =
      beat_starts es t p ∙ ap (picks (beat_due σ) t) ends ∙ picks-++ (beat_due σ) t (n - t) σ.beat
      ∙ ap (λ (x : List ℕ). multiples σ.window t n ++ x) (ap (λ (u : ℕ). picks (beat_due σ) u σ.beat) there ∙ last)
    where
      early : t ≤ n
      early = go (leb t n) refl
        where
          go : (o : Bool) → leb t n ≡ o → t ≤ n
          go true e = leb-true t n e
          go false e = absurd (omega (arith, s.over n z (leb-false t n e)))

      ends : duration es ≡ n - t + σ.beat
      ends = omega (arith, early)

      there : t + (n - t) ≡ n
      there = omega (arith, early)

      inside : (j : ℕ) → 0 < j → j < σ.beat → eqb ((n + j) % σ.window) 0 ≡ false
      inside j a b = ne_eqb ((n + j) % σ.window) 0 (λ x. omega (arith, window_on σ fits n j (omega arith)))

      last : picks (beat_due σ) n σ.beat ≡ n ∷ []
      last = picks_step (beat_due σ) n σ.beat (λ x. omega arith) inside ∙ rw (eq-eqb (n % σ.window) 0 z)

  -- the step before a SAVE: one that is no BEAT would end past B in the window, or at its end
  beat_before : (t : ℕ) (x e : Step) → InPlace σ t x.lasts x.does → InPlace σ (t + x.lasts) e.lasts e.does → is_save e.does ≡ true
      → is_beat x.does ≡ true
  beat_before t x e p q s = go (is_beat x.does) refl
    where
      z : (t + x.lasts) % round σ ≡ σ.beat
      z = eqb-true ((t + x.lasts) % round σ) σ.beat (sym q.save_at ∙ s)

      -- it takes a tick: a step of none would start where the SAVE does, and be a SAVE
      late : σ.beat ≤ t % σ.window → (o : Bool) → ltb (t % σ.window + x.lasts) σ.window ≡ o → ⊥
      late c true l =
          let w = window_on σ fits t x.lasts (ltb-true (t % σ.window + x.lasts) σ.window l) in
          let n : t ≡ t + x.lasts = omega (arith, after (t + x.lasts) z) in
          omega (arith, p.save_lasts (p.save_at ∙ eq-eqb (t % round σ) σ.beat (ap (λ (u : ℕ). u % round σ) n ∙ z)))
      late c false l =
          let w = ltb-false (t % σ.window + x.lasts) σ.window l in
          omega (arith, mod_over σ.window (window_pos σ fits) t x.lasts (omega (arith, p.ends)), after (t + x.lasts) z)

      go : (o : Bool) → is_beat x.does ≡ o → is_beat x.does ≡ true
      go true b = b
      go false b = absurd (late (p.clear b) (ltb (t % σ.window + x.lasts) σ.window) refl)

  last_beat_is : (x : Step) (xs : List Step) (e : Step) (post : List Step) (t : ℕ) → StepsPlaced σ t (x ∷ (xs ++ e ∷ post)) → is_save e.does ≡ true
      → EndsInBeat (x ∷ xs)
  last_beat_is x [] e post t p s = record { before = []; beat = x; parts = refl; is = beat_before t x e p.0 p.1.0 s }
  last_beat_is x (y ∷ ys) e post t p s =
      let r = last_beat_is y ys e post (t + x.lasts) p.1 s in
      record { before = x ∷ r.before; beat = r.beat; parts = ap (λ (l : List Step). x ∷ l) r.parts; is = r.is }

  pub after_beat : (pre : List Step) (e : Step) (post : List Step) (t : ℕ) → StepsPlaced σ t (pre ++ e ∷ post) → Settled σ t → is_save e.does ≡ true
      → EndsInBeat pre
  after_beat [] e post t p k s = absurd (no_save t 0 k (omega arith) (rw (add-zero t) (eqb-true (t % round σ) σ.beat (sym p.0.save_at ∙ s))))
  after_beat (x ∷ xs) e post t p k s = last_beat_is x xs e post t p s
