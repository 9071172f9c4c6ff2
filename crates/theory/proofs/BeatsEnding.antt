-- Which beats end at a tick: exactly those of the periods' steps whose start the beat's ticks bring there.
use Prim.Native.Nat.{ℕ, zero, suc, ◌+◌, ◌-◌, ◌%◌, ◌≤◌, ◌<◌}
use native.Mathlib.{Omega.arith, Nat.add_assoc, Decide.ℕ_discrete}
use mathlib.Core.Path.{◌≡◌, refl, ap, sym, subst}
use mathlib.Core.List.Memᴰ.{head as at_head}
use mathlib.Core.List.Memᴰ.{tail as in_Tail}
use mathlib.Core.{Logic.⊎_elim, List.Memᴰ as Among}
use mathlib.Core.Bool.{Bool, true, false, cond, true≢false}
use mathlib.Core.List.{List, [], ◌∷◌, ◌++◌, map, append-nil}
use mathlib.Core.List.Memᴰ.{eq_of_singleton as only-among}
use mathlib.Core.List.Memᴰ.{not-nil as none-among}
use mathlib.Core.List.Memᴰ.{append_cases as left-or-right}
use mathlib.Core.List.Memᴰ.{cases_cons as head_or_tail}
use mathlib.Core.List.Memᴰ.{append_left as in_left}
use mathlib.Core.List.Memᴰ.{append_right as in_right}
use mathlib.Core.List.Memᴰ.{map as in_map}
use mathlib.Core.List.Memᴰ.{of_map as from-map}
use lib.Dec.{eqb, ltb}
use borrow.Author.Tests.{eqb-true, eq-eqb, ne_eqb, ltb-true, ltb-false}
use Rattle.model.specs.declared.Settings.{Settings}
use Rattle.model.specs.Runs.{Effect, nothing, assigns, outputs, beats, saves, overruns, is_beat, Step}
use Rattle.model.specs.{Placement.StepsPlaced, Periods.beat_value, Periods.beats_ending, Periods.beats_in, Periods.listed_ending}
use Rattle.model.specs.Timeline.{picks, multiples, beat_at, beat_list}

-- where a condition picks one thing
from_one : {A : Type 0} (o : Bool) (x y : A) → Among x (cond o (y ∷ []) []) → (o ≡ true) × (x ≡ y)
from_one true x y m = (refl, only-among m)
from_one false x y m = absurd (none-among m)

in_one : {A : Type 0} (o : Bool) (x : A) → o ≡ true → Among x (cond o (x ∷ []) [])
in_one true x e = at_head refl
in_one false x e = absurd (true≢false (sym e))

-- TICKS

picks_from : (p : ℕ → Bool) (n t u : ℕ) → Among u (picks p t n) → (p u ≡ true) × (u < t + n)
picks_from p zero t u m = absurd (none-among m)
picks_from p (suc n) t u m = ⊎_elim here (go (picks_from p n (t + 1) u)) (left-or-right (cond (p t) (t ∷ []) []) m)
  where
    here : Among u (cond (p t) (t ∷ []) []) → (p u ≡ true) × (u < t + suc n)
    here a = let e = from_one (p t) u t a in (rw e.1 e.0, omega (arith, e.1))

    go : (Among u (picks p (t + 1) n) → (p u ≡ true) × (u < t + 1 + n)) → Among u (picks p (t + 1) n) → (p u ≡ true) × (u < t + suc n)
    go ih a = let e = ih a in (e.0, omega (arith, e.1))

in_picks : (p : ℕ → Bool) (n t u : ℕ) → p u ≡ true → t ≤ u → u < t + n → Among u (picks p t n)
in_picks p zero t u e l m = absurd (omega arith)
in_picks p (suc n) t u e l m = go (ℕ_discrete t u) (in_picks p n (t + 1) u e)
  where
    go : Dec (t ≡ u) → (t + 1 ≤ u → u < t + 1 + n → Among u (picks p (t + 1) n)) → Among u (picks p t (suc n))
    go (yes q) ih = in_left (picks p (t + 1) n) (subst (λ (x : ℕ). Among u (cond (p x) (x ∷ []) [])) (sym q) (in_one (p u) u e))
    go (no q) ih = in_right (cond (p t) (t ∷ []) []) (ih (omega arith) (omega arith))

-- BEATS LISTED BY THEIR START

no_value : (o : Bool) (xs ys : List ℕ) → xs ≡ ys → cond o [] [] ++ xs ≡ ys
no_value true xs ys e = e
no_value false xs ys e = e

-- each BEAT in place lasts B
pub ending_listed : (σ : Settings) (c a : ℕ) (es : List Step) (t : ℕ) → StepsPlaced σ t es
    → beats_ending c (a + t) es ≡ listed_ending (a + σ.beat) c (beat_list t es)
ending_listed σ c a [] t p = refl
ending_listed σ c a (e ∷ es) t p =
    go e.does p.0.beat_lasts
    (subst (λ (u : ℕ). beats_ending c u es ≡ listed_ending (a + σ.beat) c (beat_list (t + e.lasts) es)) (sym (add_assoc a t e.lasts))
    (ending_listed σ c a es (t + e.lasts) p.1))
  where
    go : (w : Effect) → (is_beat w ≡ true → e.lasts ≡ σ.beat) → beats_ending c (a + t + e.lasts) es ≡ listed_ending (a + σ.beat) c (beat_list (t + e.lasts) es)
        → cond (eqb (a + t + e.lasts) c) (beat_value w) [] ++ beats_ending c (a + t + e.lasts) es
        ≡ listed_ending (a + σ.beat) c (beat_at t w ++ beat_list (t + e.lasts) es)
    go nothing l ih = no_value (eqb (a + t + e.lasts) c) _ _ ih
    go (assigns x y) l ih = no_value (eqb (a + t + e.lasts) c) _ _ ih
    go (outputs x y) l ih = no_value (eqb (a + t + e.lasts) c) _ _ ih
    go (beats x) l ih =
        let q = l refl in
        let f : a + t + e.lasts ≡ a + σ.beat + t = omega arith in
        rw ih (ap (λ (u : ℕ). cond (eqb u c) (x ∷ []) [] ++ listed_ending (a + σ.beat) c (beat_list (t + e.lasts) es)) f)
    go (saves m) l ih = no_value (eqb (a + t + e.lasts) c) _ _ ih
    go overruns l ih = no_value (eqb (a + t + e.lasts) c) _ _ ih

-- a value among them is one of the list's, with its start
record ListedEnding (o c v : ℕ) (l : List (ℕ × ℕ)) : Type 0 where
  begun : ℕ
  ends : o + begun ≡ c
  in_list : Among (begun, v) l

from_listed : (o c v : ℕ) (l : List (ℕ × ℕ)) → Among v (listed_ending o c l) → ListedEnding o c v l
from_listed o c v [] m = absurd (none-among m)
from_listed o c v (y ∷ l) m =
    ⊎_elim
    (λ a.
    let e = from_one (eqb (o + y.0) c) v y.1 a in
    record { begun = y.0; ends = eqb-true (o + y.0) c e.0; in_list = at_head (ap (λ (x : ℕ). (y.0, x)) e.1) })
    (λ a. let r = from_listed o c v l a in record { begun = r.begun; ends = r.ends; in_list = in_Tail r.in_list })
    (left-or-right (cond (eqb (o + y.0) c) (y.1 ∷ []) []) m)

in_listed : (o u v : ℕ) (l : List (ℕ × ℕ)) → Among (u, v) l → Among v (listed_ending o (o + u) l)
in_listed o u v [] m = absurd (none-among m)
in_listed o u v (y ∷ l) m =
    ⊎_elim
    (λ e.
    in_left (listed_ending o (o + u) l)
    (subst (λ (z : ℕ × ℕ). Among v (cond (eqb (o + z.0) (o + u)) (z.1 ∷ []) [])) e (in_one (eqb (o + u) (o + u)) v (eq-eqb (o + u) (o + u) refl))))
    (λ a. in_right (cond (eqb (o + y.0) (o + u)) (y.1 ∷ []) []) (in_listed o u v l a)) (head_or_tail m)

-- THE BEATS OF A PERIOD

-- value 1 at the multiples of h below s, and value x at s
abbrev pub beats_to : ℕ → ℕ → ℕ → List (ℕ × ℕ)
beats_to h s x = map (λ u. (u, 1)) (multiples h 0 s) ++ (s, x) ∷ []

-- what holds of 1 where a multiple below s brings it to c, and of x where s does, holds of each value there
pub each_beat : (P : ℕ → Type 0) (h s x o c : ℕ) → ((u : ℕ) → u % h ≡ 0 → u < s → o + u ≡ c → P 1) → (o + s ≡ c → P x)
    → (v : ℕ) → Among v (listed_ending o c (beats_to h s x)) → P v
each_beat P h s x o c one last v m = ⊎_elim front back (left-or-right (map (λ u. (u, 1)) (multiples h 0 s)) r.in_list)
  where
    r : ListedEnding o c v (beats_to h s x)
    r = from_listed o c v (beats_to h s x) m

    front : Among {A = ℕ × ℕ} (r.begun, v) (map (λ u. (u, 1)) (multiples h 0 s)) → P v
    front a =
        let w = from-map {B = ℕ × ℕ} (λ u. (u, 1)) (multiples h 0 s) a in
        let q = picks_from (λ t. eqb (t % h) 0) (s - 0) 0 w.0 w.1 in
        let e : w.0 ≡ r.begun = ap (λ (z : ℕ × ℕ). z.0) w.2 in
        subst P (ap (λ (z : ℕ × ℕ). z.1) w.2) (one w.0 (eqb-true (w.0 % h) 0 q.0) (omega (arith, q.1)) (omega (arith, e, r.ends)))

    back : Among {A = ℕ × ℕ} (r.begun, v) ((s, x) ∷ []) → P v
    back a =
        let w = only-among a in
        let e : r.begun ≡ s = ap (λ (z : ℕ × ℕ). z.0) w in
        subst P (sym (ap (λ (z : ℕ × ℕ). z.1) w)) (last (omega (arith, e, r.ends)))

-- one ends for each multiple of h up to s
pub some_beat : (h s x o u : ℕ) → u % h ≡ 0 → u ≤ s → (v : ℕ) × Among v (listed_ending o (o + u) (beats_to h s x))
some_beat h s x o u e l = go (ℕ_discrete u s)
  where
    go : Dec (u ≡ s) → (v : ℕ) × Among v (listed_ending o (o + u) (beats_to h s x))
    go (yes q) = (x, in_listed o u x (beats_to h s x) (in_right (map (λ u. (u, 1)) (multiples h 0 s)) (at_head (ap (λ (z : ℕ). (z, x)) q))))
    go (no q) = (
      1,
      in_listed o u 1 (beats_to h s x)
          (in_left ((s, x) ∷ []) (in_map (λ u. (u, 1)) (in_picks (λ t. eqb (t % h) 0) (s - 0) 0 u (eq-eqb (u % h) 0 e) (omega arith) (omega arith)))),
    )

-- PERIODS

module _ (begins : ℕ → ℕ) (steps : ℕ → List Step) (c v : ℕ) where
  pub from_periods : (m : ℕ) → Among v (beats_in begins steps m c) → (n : ℕ) × Among v (beats_ending c (begins n) (steps n))
  from_periods zero a = absurd (none-among a)
  from_periods (suc m) a = ⊎_elim (from_periods m) (λ b. (m, b)) (left-or-right (beats_in begins steps m c) a)

  in_periods : (m n : ℕ) → n < m → Among v (beats_ending c (begins n) (steps n)) → Among v (beats_in begins steps m c)
  in_periods zero n l a = absurd (omega arith)
  in_periods (suc m) n l a = go (ℕ_discrete n m) (in_periods m n)
    where
      go : Dec (n ≡ m) → (n < m → Among v (beats_ending c (begins n) (steps n)) → Among v (beats_in begins steps m c)) → Among v (beats_in begins steps (suc m) c)
      go (yes q) ih = in_right (beats_in begins steps m c) (subst (λ (j : ℕ). Among v (beats_ending c (begins j) (steps j))) q a)
      go (no q) ih = in_left (beats_ending c (begins m) (steps m)) (ih (omega arith) a)

-- none of a period that begins later
ending_none : (c t : ℕ) → c < t → (es : List Step) → beats_ending c t es ≡ []
ending_none c t l [] = refl
ending_none c t l (e ∷ es) =
    let o : eqb (t + e.lasts) c ≡ false = ne_eqb (t + e.lasts) c (λ z. omega (arith, z)) in
    rw (o, ending_none c (t + e.lasts) (omega arith) es)

-- of all periods those up to period c are enough at tick c
pub in_all_periods : (begins : ℕ → ℕ) (steps : ℕ → List Step) → ((n : ℕ) → n ≤ begins n) → (c v n : ℕ) → Among v (beats_ending c (begins n) (steps n))
    → Among v (beats_in begins steps (suc c) c)
in_all_periods begins steps begun c v n a = go (ltb c n) refl
  where
    go : (o : Bool) → ltb c n ≡ o → Among v (beats_in begins steps (suc c) c)
    go true e =
        let l = ltb-true c n e in
        absurd (none-among (subst (Among v) (ending_none c (begins n) (omega (arith, begun n)) (steps n)) a))
    go false e = in_periods begins steps c v (suc c) n (let l = ltb-false c n e in omega arith) a

pub periods_enough : (begins : ℕ → ℕ) (steps : ℕ → List Step) → ((n : ℕ) → n ≤ begins n) → (c d : ℕ)
    → beats_in begins steps (suc c + d) c ≡ beats_in begins steps (suc c) c
periods_enough begins steps begun c zero = let e : suc c + 0 ≡ suc c = omega arith in rw e
periods_enough begins steps begun c (suc d) =
    let e : suc c + suc d ≡ suc (suc c + d) = omega arith in
    rw (e, ending_none c (begins (suc c + d)) (omega (arith, begun (suc c + d))) (steps (suc c + d)), append-nil (beats_in begins steps (suc c + d) c))
    (periods_enough begins steps begun c d)
