-- Laying out puts each record in place: the commands at the multiples of H, and each step after them, within its window.
use Prim.Native.Nat.{ℕ, zero, suc, ◌+◌, ◌-◌, ◌%◌, ◌/◌, max, ◌≤◌, ◌<◌}
use native.Mathlib.Omega.{arith}
use native.Mathlib.Nat.{mod-lt, lt_of_not-le, mod-mod_of_dvd, dvd-mul_left, mul-le-mul_left, mul-le-mul_right, mod-eq_of_lt, zero-mod, add-zero, zero-add, add_assoc}
use mathlib.Core.Path.{◌≡◌, refl, ap, sym, ◌∙◌}
use mathlib.Core.Bool.{Bool, true, false, cond, true≢false, false≢true}
use lib.Dec.{eqb, ltb}
use borrow.Author.Tests.{ltb-true, ltb-false, le-ltb, eqb-true, eqb-false, eq-eqb, ne_eqb}
use Rattle.model.specs.declared.Settings.{Settings}
use Rattle.model.specs.Trees.{Test, Act, set, read, write, check, beat, save, Block, nil, skip, act, branch, while, times, ◌⧺◌}
use Rattle.model.specs.Times.{ticks, time}
use Rattle.model.specs.Runs.{nothing, beats, saves, is_beat, is_save}
use Rattle.model.specs.Layout.{commands, left, before, idle, idles, fill, filled, lay, opened, body}
use Rattle.model.specs.Placement.{Fits, command, CommandFree, LoopFree, InPlace, Placed}
use Rattle.theory.specs.Windows.{Free, Past, bound, past, round}
use Rattle.laws.proofs.Trees.{⧺-nil}
use Rattle.theory.proofs.{Times.time-⧺, Sequences.either}
use Rattle.theory.proofs.Clock.{mod_within, mod_over, mod_round}

-- LAYING OUT TAKES NO TICK AWAY

module _ (σ : Settings) where
  pub idles_longer : (n t : ℕ) → n ≤ time σ (idles σ n t)
  idles_longer zero t = omega arith
  idles_longer (suc n) t =
      let u = t + time σ (idle σ t) in
      omega (arith, time-⧺ σ (idle σ t) (idles σ n u), time-⧺ σ (before σ t 1) (skip 1 nil), idles_longer n u)

  filled_longer : (t e : ℕ) (a : Block) → time σ a ≤ time σ (filled σ t a e)
  filled_longer t e a = omega (arith, time-⧺ σ a (fill σ (e - (t + time σ a)) (t + time σ a) e))

  -- the time of a block is at most that of what is laid of it, from any tick
  lay_longer : (b : Block) (t : ℕ) → LoopFree b → time σ b ≤ time σ (lay σ b t)
  lay_longer nil t p = omega arith
  lay_longer (skip n b) t p = rw (time-⧺ σ (idles σ n t)) (omega (arith, idles_longer n t, lay_longer b (t + time σ (idles σ n t)) p))
  lay_longer (act q b) t p =
      let u = t + time σ (before σ t (ticks σ q)) in
      rw (time-⧺ σ (before σ t (ticks σ q))) (omega (arith, lay_longer b (u + ticks σ q) p))
  lay_longer (branch q a d b) t p =
      let u = t + time σ (before σ t 1) + 1 in
      let A = lay σ a u in
      let D = lay σ d u in
      let e = u + max (time σ A) (time σ D) in
      let r = time-⧺ σ (before σ t 1) (branch q (filled σ u A e) (filled σ u D e) (lay σ b e)) in
      omega (arith, r, filled_longer u e A, filled_longer u e D, lay_longer a u p.0, lay_longer d u p.1, lay_longer b e p.2)
  lay_longer (while q n a b) t p = absurd p
  lay_longer (times q n a b) t p = absurd p

  pub body_longer : (b : Block) → LoopFree b → time σ b ≤ time σ (body σ b)
  body_longer b p = rw (time-⧺ σ (opened σ b)) (omega (arith, lay_longer b (σ.beat + σ.save) p))

-- IN PLACE

-- a step of d ticks may start here, with no command before it
record MayStart (σ : Settings) (d t : ℕ) : Type 0 where
  clear : Past σ 0 t
  room : t % σ.window + d ≤ σ.window

-- the block b in place from t on, up to a tick that P holds of
record Leads (σ : Settings) (P : ℕ → Type 0) (t : ℕ) (b : Block) : Type 0 where
  placed : Placed σ b t
  there : P (t + time σ b)

-- the commands at a multiple of H; a later end of a step lies past them
record Commanded (σ : Settings) (t : ℕ) (b : Block) : Type 0 where
  placed : Placed σ b t
  clear : Past σ 0 (t + time σ b)
  near : (t + time σ b) % σ.window ≤ σ.beat + σ.save
  short : (m : ℕ) → 0 < m → Free σ 1 (t + m) → time σ b < m

module _ (σ : Settings) (fits : Fits σ) where
  pub window_pos : 0 < σ.window
  window_pos = omega arith

  pub window_round : σ.window ≤ round σ
  window_round = omega (arith, mul-le-mul_right σ.window fits.positive.spaced)

  pub round_pos : 0 < round σ
  round_pos = omega (arith, window_round)

  -- a tick's place in its round tells that in its window
  round_window : (t : ℕ) → t % round σ % σ.window ≡ t % σ.window
  round_window t = mod-mod_of_dvd σ.window t (dvd-mul_left σ.window σ.spacing)

  pub round_ends : (t d : ℕ) → t % σ.window + d ≤ σ.window → t % round σ + d ≤ round σ
  round_ends t d l =
      rw (mod_round σ.window window_pos σ.spacing fits.positive.spaced t)
      (omega (arith, mul-le-mul_left σ.window (mod-lt (t / σ.window) fits.positive.spaced)))

  pub window_on : (t d : ℕ) → t % σ.window + d < σ.window → (t + d) % σ.window ≡ t % σ.window + d
  window_on = mod_within σ.window window_pos

  round_on : (t d : ℕ) → t % σ.window + d < σ.window → (t + d) % round σ ≡ t % round σ + d
  round_on t d l = mod_within (round σ) round_pos t d (omega (arith, round_ends t (suc d) (omega arith)))

  window_over : (t : ℕ) → (t + left σ t) % σ.window ≡ 0
  window_over t = mod_over σ.window window_pos t (left σ t) (omega (arith, mod-lt t window_pos))

  -- a place in the round below H is that in the window
  pub round_small : (t n : ℕ) → n < σ.window → t % round σ ≡ n → t % σ.window ≡ n
  round_small t n l e = sym (round_window t) ∙ ap (λ (x : ℕ). x % σ.window) e ∙ mod-eq_of_lt l

  -- a BEAT at a multiple of H, and a step that is no command past them
  beat_placed : (x t : ℕ) → t % σ.window ≡ 0 → InPlace σ t σ.beat (beats x)
  beat_placed x t e = record {
    beat_at_is = sym (eq-eqb (t % σ.window) 0 e);
    save_at = sym (ne_eqb (t % round σ) σ.beat (λ z. omega (arith, round_small t σ.beat (omega arith) z)));
    ends = omega arith;
    clear = λ z. absurd (true≢false z);
    beat_lasts = λ z. refl;
    save_lasts = λ z. absurd (false≢true z);
  }

  in_place : (d t : ℕ) → MayStart σ d t → InPlace σ t d nothing
  in_place d t r = record {
    beat_at_is = sym (ne_eqb (t % σ.window) 0 (λ z. omega arith));
    save_at = sym (ne_eqb (t % round σ) σ.beat (λ z. omega arith));
    ends = r.room;
    clear = λ z. omega arith;
    beat_lasts = λ z. absurd (false≢true z);
    save_lasts = λ z. absurd (false≢true z);
  }

  -- waiting for the next multiple of H
  waits : (t : ℕ) → Past σ 0 t → InPlace σ t (left σ t) nothing
  waits t p = in_place (left σ t) t (record { clear = p; room = omega (arith, mod-lt t window_pos) })

  weaken : (ε ε' t : ℕ) → ε' ≤ ε → Past σ ε t → Past σ ε' t
  weaken ε ε' t l p = record { beaten = omega arith; saved = omega arith }

  pub later : (ε t : ℕ) → ε ≤ 1 → Free σ 1 t → Free σ ε t
  later ε t l (bound e) = bound e
  later ε t l (past p) = past (weaken 1 ε t l p)

  after_step : (ε d t : ℕ) → ε ≤ 1 → 1 ≤ d → MayStart σ d t → Free σ ε (t + d)
  after_step ε d t h p r = go (ltb (t % σ.window + d) σ.window) refl
    where
      go : (o : Bool) → ltb (t % σ.window + d) σ.window ≡ o → Free σ ε (t + d)
      go true e =
          let l = ltb-true (t % σ.window + d) σ.window e in
          past (record { beaten = rw (window_on t d l) (omega arith); saved = rw (round_on t d l) (omega arith) })
      go false e = bound (mod_over σ.window window_pos t d (omega (arith, ltb-false (t % σ.window + d) σ.window e)))

  -- what a block leads to, from its parts
  module _ {P : ℕ → Type 0} where
    leads_nil : (t : ℕ) → P t → Leads σ P t nil
    leads_nil t p = record { placed = tt; there = rw (add-zero t) p }

    leads_skip : (n t : ℕ) (b : Block) → InPlace σ t n nothing → Leads σ P (t + n) b → Leads σ P t (skip n b)
    leads_skip n t b i k = record { placed = (i, k.placed); there = rw (← add_assoc t n (time σ b)) k.there }

    leads_act : (r : Act) (t : ℕ) (b : Block) → InPlace σ t (ticks σ r) (command r) → Leads σ P (t + ticks σ r) b → Leads σ P t (act r b)
    leads_act r t b i k = record { placed = (i, k.placed); there = rw (← add_assoc t (ticks σ r) (time σ b)) k.there }

    leads_branch : (q : Test) (t e : ℕ) (a d b : Block) → InPlace σ t 1 nothing → Leads σ (λ u. u ≡ e) (t + 1) a → Leads σ (λ u. u ≡ e) (t + 1) d
        → Leads σ P e b → Leads σ P t (branch q a d b)
    leads_branch q t e a d b i x y k =
        let z : t + 1 + max (time σ a) (time σ d) ≡ e = omega arith in
        let w : t + (1 + max (time σ a) (time σ d) + time σ b) ≡ e + time σ b = omega arith in
        record { placed = (i, x.placed, y.placed, omega arith, rw z k.placed); there = rw w k.there }

    leads-⧺ : (a b : Block) (t : ℕ) → Placed σ a t → Leads σ P (t + time σ a) b → Leads σ P t (a ⧺ b)
    leads-⧺ nil b t p k = rw (add-zero t) at k
    leads-⧺ (skip n a) b t p k = leads_skip n t (a ⧺ b) p.0 (leads-⧺ a b (t + n) p.1 (rw (← add_assoc t n (time σ a)) at k))
    leads-⧺ (act r a) b t p k = leads_act r t (a ⧺ b) p.0 (leads-⧺ a b (t + ticks σ r) p.1 (rw (← add_assoc t (ticks σ r) (time σ a)) at k))
    leads-⧺ (branch q x y a) b t p k =
        let e = t + 1 + max (time σ x) (time σ y) in
        let z : t + (1 + max (time σ x) (time σ y) + time σ a) ≡ e + time σ a = omega arith in
        let f : time σ x ≡ time σ y = p.3 in
        leads_branch q t e x y (a ⧺ b) p.0 (record { placed = p.1; there = omega arith }) (record { placed = p.2; there = omega arith })
        (leads-⧺ a b e p.4 (rw z at k))
    leads-⧺ (while q n x a) b t p k = absurd p
    leads-⧺ (times q n x a) b t p k = absurd p

  -- COMMANDS

  -- they take B, or B + S where the round starts; the last premise says which
  opens : (t : ℕ) → t % σ.window ≡ 0 → (b : Block) → Placed σ b t → σ.beat ≤ time σ b → time σ b ≤ σ.beat + σ.save
      → σ.beat + σ.save ≤ t % round σ + time σ b
      → ((m : ℕ) → σ.beat < m → σ.beat + σ.save < t % round σ + m → time σ b < m)
      → Commanded σ t b
  opens t e b p l h r s =
      let x = window_on t (time σ b) (omega arith) in
      let y = round_on t (time σ b) (omega arith) in
      record { placed = p; clear = record { beaten = omega arith; saved = omega arith }; near = omega arith; short = λ m k f. go m k (ltb m σ.window) refl f }
    where
      go : (m : ℕ) → 0 < m → (o : Bool) → ltb m σ.window ≡ o → Free σ 1 (t + m) → time σ b < m
      go m k true x (bound z) = omega (arith, window_on t m (omega (arith, ltb-true m σ.window x)))
      go m k true x (past q) =
          let w : t % σ.window + m < σ.window = omega (arith, ltb-true m σ.window x) in
          s m (omega (arith, window_on t m w)) (omega (arith, round_on t m w))
      go m k false x f = omega (arith, ltb-false m σ.window x)

  commanded : (t : ℕ) → t % σ.window ≡ 0 → Commanded σ t (commands σ t)
  commanded t e = rw (eq-eqb (t % σ.window) 0 e) (go (eqb (t % round σ) 0) refl)
    where
      go : (o : Bool) → eqb (t % round σ) 0 ≡ o → Commanded σ t (act (beat 1) (cond o (act (save 0) nil) nil))
      go true z =
          let r = eqb-true (t % round σ) 0 z in
          let x = window_on t σ.beat (omega arith) in
          let y = round_on t σ.beat (omega arith) in
          let q : InPlace σ (t + σ.beat) σ.save (saves 0) = record {
            beat_at_is = sym (ne_eqb ((t + σ.beat) % σ.window) 0 (λ z. omega arith));
            save_at = sym (eq-eqb ((t + σ.beat) % round σ) σ.beat (omega arith));
            ends = omega arith;
            clear = λ z. omega arith;
            beat_lasts = λ z. absurd (false≢true z);
            save_lasts = λ z. refl;
          } in
          opens t e (act (beat 1) (act (save 0) nil)) (beat_placed 1 t e, (q, tt)) (omega arith) (omega arith) (omega arith) (λ m l h. omega arith)
      go false z =
          let m = t % round σ in
          let r : σ.window - 1 < m = lt_of_not-le (λ l. eqb-false m 0 z (sym (round_small t m (omega arith) refl) ∙ e)) in
          opens t e (act (beat 1) nil) (beat_placed 1 t e, tt) (omega arith) (omega arith) (omega arith) (λ m l h. omega arith)

  -- they end before a later step does
  pub commands_before : (t m : ℕ) → t % σ.window ≡ 0 → 0 < m → Free σ 1 (t + m) → time σ (commands σ t) < m
  commands_before t m e k f = (commanded t e).short m k f

  no_command : (t : ℕ) → Past σ 0 t → commands σ t ≡ nil
  no_command t p = rw (ne_eqb (t % σ.window) 0 (λ z. omega arith))

  -- before a step of d ticks: its commands, and if need be a wait for the next multiple of H and its commands
  module _ (d : ℕ) (fit : σ.beat + σ.save + d ≤ σ.window) where
    ready_bound : (t : ℕ) → t % σ.window ≡ 0 → Leads σ (MayStart σ d) t (commands σ t)
    ready_bound t e = let c = commanded t e in record { placed = c.placed; there = record { clear = c.clear; room = omega arith } }

    ready_wait : (t : ℕ) → Past σ 0 t → Leads σ (MayStart σ d) t (cond (ltb (left σ t) d) (skip (left σ t) (commands σ (t + left σ t))) nil)
    ready_wait t p = go (ltb (left σ t) d) refl
      where
        go : (o : Bool) → ltb (left σ t) d ≡ o → Leads σ (MayStart σ d) t (cond o (skip (left σ t) (commands σ (t + left σ t))) nil)
        go true e = leads_skip (left σ t) t (commands σ (t + left σ t)) (waits t p) (ready_bound (t + left σ t) (window_over t))
        go false e = leads_nil t (record { clear = p; room = omega (arith, mod-lt t window_pos, ltb-false (left σ t) d e) })

    ready : (ε t : ℕ) → Free σ ε t → Leads σ (MayStart σ d) t (before σ t d)
    unfolding before
    ready ε t (bound e) = let c = commanded t e in leads-⧺ (commands σ t) _ t c.placed (ready_wait (t + time σ (commands σ t)) c.clear)
    ready ε t (past p) = let q = weaken ε 0 t (omega arith) p in rw (no_command t q, add-zero t) (ready_wait t q)

  -- SKIPS AND FILLING

  one : σ.beat + σ.save + 1 ≤ σ.window
  one = omega arith

  free_idle : (ε t : ℕ) → Free σ ε t → Leads σ (Free σ 1) t (idle σ t)
  free_idle ε t f =
      let u = t + time σ (before σ t 1) in
      let r = ready 1 one ε t f in
      leads-⧺ (before σ t 1) (skip 1 nil) t r.placed
      (leads_skip 1 u nil (in_place 1 u r.there) (leads_nil (u + 1) (after_step 1 1 u (omega arith) (omega arith) r.there)))

  free_idles : (n ε t : ℕ) → ε ≤ 1 → Free σ ε t → Leads σ (Free σ ε) t (idles σ n t)
  free_idles zero ε t l f = leads_nil t f
  free_idles (suc n) ε t l f =
      let u = t + time σ (idle σ t) in
      let k = free_idle ε t f in
      leads-⧺ (idle σ t) (idles σ n u) t k.placed (free_idles n ε u l (later ε u l k.there))

  -- a tick of SKIP and its commands end at most where a later step ends
  idle_short : (t m : ℕ) → 0 < m → Free σ 1 t → Free σ 1 (t + m) → time σ (idle σ t) ≤ m
  unfolding before
  idle_short t m k f g =
      let u = t + time σ (commands σ t) in
      rw (le-ltb (left σ u) 1 (omega (arith, mod-lt u window_pos)), ⧺-nil) (rw (time-⧺ σ (commands σ t)) (go f))
    where
      go : Free σ 1 t → time σ (commands σ t) + 1 ≤ m
      go (bound e) = omega (arith, (commanded t e).short m k g)
      go (past p) = rw (no_command t (weaken 1 0 t (omega arith) p)) (omega arith)

  fill_meets : (n t e : ℕ) → Free σ 1 t → Free σ 1 e → t ≤ e → e ≤ t + n → Leads σ (λ u. u ≡ e) t (fill σ n t e)
  fill_meets zero t e f g l h = leads_nil t (omega arith)
  fill_meets (suc n) t e f g l h = go (ltb t e) refl (fill_meets n (t + time σ (idle σ t)) e)
    where
      u : ℕ
      u = t + time σ (idle σ t)

      go : (o : Bool) → ltb t e ≡ o → (Free σ 1 u → Free σ 1 e → u ≤ e → e ≤ u + n → Leads σ (λ u. u ≡ e) u (fill σ n u e))
          → Leads σ (λ u. u ≡ e) t (cond o (idle σ t ⧺ fill σ n u e) nil)
      go false x rest = leads_nil t (omega (arith, ltb-false t e x))
      go true x rest =
          let y = ltb-true t e x in
          let z : t + (e - t) ≡ e = omega arith in
          let k = free_idle 1 t f in
          let s = idle_short t (e - t) (omega arith) f (rw z g) in
          leads-⧺ (idle σ t) (fill σ n u e) t k.placed (rest k.there g (omega arith) (omega (arith, time-⧺ σ (before σ t 1) (skip 1 nil))))

  filled_meets : (t e : ℕ) (a : Block) → Leads σ (Free σ 1) t a → Free σ 1 e → t + time σ a ≤ e → Leads σ (λ u. u ≡ e) t (filled σ t a e)
  filled_meets t e a k g l =
      let u = t + time σ a in
      leads-⧺ a (fill σ (e - u) u e) t k.placed (fill_meets (e - u) u e k.there g l (omega arith))

  -- the later of two ends
  pub free_later : (e t u : ℕ) → e ≡ max t u → Free σ 1 t → Free σ 1 u → Free σ 1 e
  free_later e t u z f g = go (ltb t u) refl
    where
      go : (o : Bool) → ltb t u ≡ o → Free σ 1 e
      go true x = let m : e ≡ u = omega (arith, ltb-true t u x) in rw m g
      go false x = let m : e ≡ t = omega (arith, ltb-false t u x) in rw m f

  -- BLOCKS

  act_fits : (p : Act) → command p ≡ nothing → (1 ≤ ticks σ p) × (σ.beat + σ.save + ticks σ p ≤ σ.window)
  act_fits (set o t l x) u =
      either (λ (n : ℕ). (1 ≤ n) × (σ.beat + σ.save + n ≤ σ.window)) (eqb (o % 16) 3) σ.multiply σ.set (omega arith) (omega arith)
  act_fits (read a p) u = omega arith
  act_fits (write a p) u = omega arith
  act_fits (check q) u = omega arith
  act_fits (beat x) u = absurd (true≢false (ap is_beat u))
  act_fits (save m) u = absurd (true≢false (ap is_save u))

  free_lay : (b : Block) (ε t : ℕ) → LoopFree b → CommandFree b → ε ≤ 1 → Free σ ε t → Leads σ (Free σ ε) t (lay σ b t)
  free_lay nil ε t p c l f = leads_nil t f
  free_lay (skip n b) ε t p c l f =
      let u = t + time σ (idles σ n t) in
      let k = free_idles n ε t l f in
      leads-⧺ (idles σ n t) (lay σ b u) t k.placed (free_lay b ε u p c l k.there)
  free_lay (act q b) ε t p c l f =
      let d = ticks σ q in
      let x = act_fits q c.0 in
      let u = t + time σ (before σ t d) in
      let r = ready d x.1 ε t f in
      leads-⧺ (before σ t d) (act q (lay σ b (u + d))) t r.placed
      (leads_act q u (lay σ b (u + d)) (rw c.0 (in_place d u r.there))
      (free_lay b ε (u + d) p c.1 l (after_step ε d u l x.0 r.there)))
  free_lay (branch q a d b) ε t p c l f =
      let u = t + time σ (before σ t 1) in
      let r = ready 1 one ε t f in
      let A = lay σ a (u + 1) in
      let D = lay σ d (u + 1) in
      let e = u + 1 + max (time σ A) (time σ D) in
      let s = after_step 1 1 u (omega arith) (omega arith) r.there in
      let x = free_lay a 1 (u + 1) p.0 c.0 (omega arith) s in
      let y = free_lay d 1 (u + 1) p.1 c.1 (omega arith) s in
      let m = free_later e (u + 1 + time σ A) (u + 1 + time σ D) (omega arith) x.there y.there in
      leads-⧺ (before σ t 1) (branch q (filled σ (u + 1) A e) (filled σ (u + 1) D e) (lay σ b e)) t r.placed
      (leads_branch q u e (filled σ (u + 1) A e) (filled σ (u + 1) D e) (lay σ b e) (in_place 1 u r.there)
      (filled_meets (u + 1) e A x m (omega arith)) (filled_meets (u + 1) e D y m (omega arith)) (free_lay b ε e p.2 c.2 l (later ε e l m)))
  free_lay (while q n a b) ε t p c l f = absurd p
  free_lay (times q n a b) ε t p c l f = absurd p

  -- what the places lead to, for crates above: after a block, after a test, and where filling ends
  pub free_behind : (b : Block) (ε t : ℕ) → LoopFree b → CommandFree b → ε ≤ 1 → Free σ ε t → Free σ ε (t + time σ (lay σ b t))
  free_behind b ε t p c l f = (free_lay b ε t p c l f).there

  pub free_tested : (ε t : ℕ) → Free σ ε t → Free σ 1 (t + time σ (before σ t 1) + 1)
  free_tested ε t f = after_step 1 1 (t + time σ (before σ t 1)) (omega arith) (omega arith) (ready 1 one ε t f).there

  pub fill_ends : (t e : ℕ) → Free σ 1 t → Free σ 1 e → t ≤ e → t + time σ (fill σ (e - t) t e) ≡ e
  fill_ends t e f g l = (fill_meets (e - t) t e f g l (omega arith)).there

  -- THE WHOLE FILE

  -- tick 0 has BEAT and SAVE
  pub commands_0 : commands σ 0 ≡ act (beat 1) (act (save 0) nil)
  commands_0 = rw (zero-mod σ.window, zero-mod (round σ))

  -- and after them
  clear_0 : Commanded σ 0 (act (beat 1) (act (save 0) nil))
  clear_0 = rw commands_0 at (commanded 0 (zero-mod σ.window))

  pub free_start : Free σ 0 (σ.beat + σ.save)
  free_start = let z : 0 + (σ.beat + (σ.save + 0)) ≡ σ.beat + σ.save = omega arith in past (rw z at clear_0.clear)

  free_opened : (b : Block) → LoopFree b → CommandFree b → Leads σ (Free σ 0) 0 (opened σ b)
  free_opened b p c =
      let z : 0 + (σ.beat + (σ.save + 0)) ≡ σ.beat + σ.save = omega arith in
      leads-⧺ (act (beat 1) (act (save 0) nil)) (lay σ b (σ.beat + σ.save)) 0 clear_0.placed
      (rw z (free_lay b 0 (σ.beat + σ.save) p c (omega arith) free_start))

  bound_end : (t : ℕ) → Free σ 0 t → Leads σ (λ u. u % σ.window ≡ 0) t (cond (eqb (t % σ.window) 0) nil (skip (left σ t) nil))
  bound_end t f = go (eqb (t % σ.window) 0) refl f
    where
      go : (o : Bool) → eqb (t % σ.window) 0 ≡ o → Free σ 0 t → Leads σ (λ u. u % σ.window ≡ 0) t (cond o nil (skip (left σ t) nil))
      go true e f = leads_nil t (eqb-true (t % σ.window) 0 e)
      go false e (bound z) = absurd (eqb-false (t % σ.window) 0 e z)
      go false e (past p) = leads_skip (left σ t) t nil (waits t p) (leads_nil (t + left σ t) (window_over t))

  bound_body : (b : Block) → LoopFree b → CommandFree b → Leads σ (λ u. u % σ.window ≡ 0) 0 (body σ b)
  bound_body b p c =
      let t = time σ (opened σ b) in
      let k = free_opened b p c in
      leads-⧺ (opened σ b) _ 0 k.placed (rw (zero-add t) (bound_end t (rw (zero-add t) at k.there)))

  pub placed_body : (b : Block) (x : ℕ) → LoopFree b → CommandFree b → Placed σ (body σ b ⧺ act (beat x) nil) 0
  placed_body b x p c =
      let u = 0 + time σ (body σ b) in
      let k = bound_body b p c in
      let last : Leads σ (λ u. Unit {0}) u (act (beat x) nil) = record { placed = (beat_placed x u k.there, tt); there = tt } in
      (leads-⧺ (body σ b) (act (beat x) nil) 0 k.placed last).placed

  -- the last BEAT starts at a multiple of H
  pub body_ends : (b : Block) → LoopFree b → CommandFree b → time σ (body σ b) % σ.window ≡ 0
  body_ends b p c = rw (zero-add (time σ (body σ b))) at (bound_body b p c).there
