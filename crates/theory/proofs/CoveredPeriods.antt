-- Periods whose BEATs are those of laid files: each beat covers the looks up to the next, if few enough look between.
use Prim.Native.Nat.{ℕ, zero, suc, ◌+◌, ◌-◌, ◌%◌, ◌≤◌, ◌<◌}
use native.Mathlib.{Omega.arith, Nat.add-zero, Nat.zero-mod, Nat.add-mod_right}
use mathlib.Core.Path.{◌≡◌, refl, ap, sym, ◌∙◌, subst}
use mathlib.Core.Bool.{Bool, true, false}
use mathlib.Core.List.Memᴰ.{not-nil as none-among}
use mathlib.Core.List.{List, [], Memᴰ as Among}
use lib.Dec.{ltb}
use borrow.Author.Tests.{ltb-true, ltb-false}
use Rattle.model.specs.{Runs.Step, Periods.beats_ending, Periods.beats_in}
use Rattle.theory.proofs.{Coverage.Quiet, Coverage.looks_in, Coverage.Covers, Looks.next_multiple}
use Rattle.theory.proofs.BeatsEnding.{beats_to, each_beat, some_beat, from_periods, in_all_periods}
use Rattle.model.specs.Periods.{listed_ending}

quiet_at : (vs : ℕ → List ℕ) (t m j : ℕ) → Quiet vs t m → j < m → vs (t + j) ≡ []
quiet_at vs t zero j q l = absurd (omega arith)
quiet_at vs t (suc m) zero q l = ap vs (add-zero t) ∙ q.0
quiet_at vs t (suc m) (suc j) q l = let e : t + suc j ≡ t + 1 + j = omega arith in ap vs e ∙ quiet_at vs (t + 1) m j q.1 (omega arith)

more_looks : (looks : ℕ → Bool) (t m n : ℕ) → m ≤ n → looks_in looks t m ≤ looks_in looks t n
more_looks looks t zero n l = omega arith
more_looks looks t (suc m) zero l = absurd (omega arith)
more_looks looks t (suc m) (suc n) l = let y = more_looks looks (t + 1) m n (omega arith) in omega arith

-- a beat covers what is before any later one
covers_to : (keep : ℕ) (vs : ℕ → List ℕ) (looks : ℕ → Bool) (b v g : ℕ) → 1 ≤ g → (vs (b + g) ≡ [] → ⊥) → looks_in looks b g + keep ≤ v + 2
    → Covers keep vs looks b v
covers_to keep vs looks b v g l some_ends few = record { until = λ m q. go m q (ltb m g) refl }
  where
    go : (m : ℕ) → Quiet vs (b + 1) m → (o : Bool) → ltb m g ≡ o → looks_in looks b (suc m) + keep ≤ v + 2
    go m q true e = let k = ltb-true m g e in let y = more_looks looks b (suc m) g (omega arith) in omega arith
    go m q false e =
        let k = ltb-false m g e in
        let f : b + 1 + (g - 1) ≡ b + g = omega arith in
        absurd (some_ends (ap vs (sym f) ∙ quiet_at vs (b + 1) m (g - 1) q (omega arith)))

-- A period that begins at tick a: its BEATs last `beat` ticks, start at the multiples of h up to s, and have value 1, but the one at s value x;
-- d ticks after that start the next period begins.
pub record BeatsSteadily (keep beat : ℕ) (looks : ℕ → Bool) (a h s x d : ℕ) (es : List Step) : Type 0 where
  pub beats : (c : ℕ) → beats_ending c a es ≡ listed_ending (a + beat) c (beats_to h s x)
  pub wide : 1 ≤ h
  pub whole : s % h ≡ 0
  pub goes_on : 1 ≤ d
  -- few looks from the end of each BEAT up to that of the next
  pub between : (u : ℕ) → u % h ≡ 0 → u + h ≤ s → looks_in looks (a + beat + u) h + keep ≤ 1 + 2
  pub behind : looks_in looks (a + beat + s) d + keep ≤ x + 2

module _ (keep beat : ℕ) (looks : ℕ → Bool) (begins : ℕ → ℕ) (steps : ℕ → List Step) (h s x d : ℕ → ℕ)
    (begun : (n : ℕ) → n ≤ begins n) (next : (n : ℕ) → begins (suc n) ≡ begins n + (s n + d n))
    (steady : (n : ℕ) → BeatsSteadily keep beat looks (begins n) (h n) (s n) (x n) (d n) (steps n)) where
  abbrev pub ending_at : ℕ → List ℕ
  ending_at c = beats_in begins steps (suc c) c

  -- a beat ends in each place
  pub some_ends : (n u c : ℕ) → u % h n ≡ 0 → u ≤ s n → begins n + beat + u ≡ c → ending_at c ≡ [] → ⊥
  some_ends n u c e l q z =
      let b = some_beat (h n) (s n) (x n) (begins n + beat) u e l in
      let a : Among b.0 (beats_ending c (begins n) (steps n)) = rw ((steady n).beats c, ← q) b.1 in
      none-among (subst (Among b.0) z (in_all_periods begins steps begun c b.0 n a))

  pub covered : (t v : ℕ) → Among v (ending_at t) → Covers keep ending_at looks t v
  covered t v a =
      let p = from_periods begins steps t v (suc t) a in
      let n = p.0 in
      each_beat (Covers keep ending_at looks t) (h n) (s n) (x n) (begins n + beat) t
      (λ u e l q.
      let m = next_multiple (h n) u (s n) e (steady n).whole l in
      covers_to keep ending_at looks t 1 (h n) (steady n).wide (some_ends n (u + h n) (t + h n) (add-mod_right u (h n) ∙ e) m (omega arith))
      (subst (λ (b : ℕ). looks_in looks b (h n) + keep ≤ 1 + 2) q ((steady n).between u e m)))
      (λ q.
      covers_to keep ending_at looks t (x n) (d n) (steady n).goes_on
      (some_ends (suc n) 0 (t + d n) (zero-mod (h (suc n))) (omega arith) (omega (arith, next n)))
      (subst (λ (b : ℕ). looks_in looks b (d n) + keep ≤ x n + 2) q (steady n).behind))
      v (subst (Among v) ((steady n).beats t) p.1)
