-- THE GENERAL LAW of watching: over any timeline of beats and looks, if each beat covers the looks up to the next, the entry keeps enough.
use Prim.Native.Nat.{ℕ, zero, suc, ◌+◌, ◌≤◌}
use native.Mathlib.{Omega.arith, Nat.add_assoc}
use mathlib.Core.Path.{◌≡◌, refl, ap, sym, ◌∙◌, subst}
use mathlib.Core.Bool.{Bool, true, false, cond, true≢false}
use mathlib.Core.List.{List, [], ◌∷◌, ◌++◌}
use mathlib.Core.List.Memᴰ.{head as at_head}
use mathlib.Core.List.Memᴰ.{tail as in_Tail}
use mathlib.Core.List.{Memᴰ as Among}
use lib.Dec.{eqb}
use borrow.Author.Tests.{ne_eqb}
use Rattle.model.specs.{Answers.bit, Periods.events_at, Periods.events_from}
use Rattle.model.specs.declared.{Entry.Entry, Event.Event}
use Rattle.model.specs.Watching.{health_of, has_failed, with_left, looked, after, after_all}
use Rattle.theory.proofs.{WatchRules.failed_left, WatchRules.live_beaten, WatchRules.waiting_looked, WatchRules.counting_looked}

-- WHAT A BEAT COVERS

-- at the m ticks from t on no beat ends; the number of looks at them
abbrev pub Quiet : (ℕ → List ℕ) → ℕ → ℕ → Type 0
Quiet vs t zero = Unit {0}
Quiet vs t (suc m) = (vs t ≡ []) × Quiet vs (t + 1) m

abbrev pub looks_in : (ℕ → Bool) → ℕ → ℕ → ℕ
looks_in looks t zero = 0
looks_in looks t (suc m) = bit (looks t) + looks_in looks (t + 1) m

-- From a beat of value v that ends at b up to the next, that one's tick not included, there are at most v + 2 - keep looks: at most v + 1 for
-- keep 1, and then the entry is not failed; at most v for keep 2, and then it is not even suspect.
pub record Covers (keep : ℕ) (vs : ℕ → List ℕ) (looks : ℕ → Bool) (b v : ℕ) : Type 0 where
  pub until : (m : ℕ) → Quiet vs (b + 1) m → looks_in looks b (suc m) + keep ≤ v + 2

-- AN ENTRY

-- it waits, or has k left
abbrev pub HasLeft : ℕ → Entry → Type 0
HasLeft k e = e.waiting ≡ false → k ≤ e.left

left_live : (e : Entry) → HasLeft 1 e → has_failed (health_of e) ≡ false
left_live e h = failed_left e ∙ go e.waiting h
  where
    go : (w : Bool) → (w ≡ false → 1 ≤ e.left) → cond w false (eqb e.left 0) ≡ false
    go true h = refl
    go false h = ne_eqb e.left 0 (λ z. let y = h refl in omega arith)

-- the look of a tick, if there is one
left_look : (l : Bool) (e : Entry) (k : ℕ) → HasLeft (bit l + k) e → HasLeft k (after_all (events_at [] l) e)
left_look false e k h = λ w. let y = h w in omega arith
left_look true e k h = go e.waiting refl
  where
    go : (w : Bool) → e.waiting ≡ w → HasLeft k (looked e)
    go true w = rw (waiting_looked e w) (λ x. absurd (true≢false (sym w ∙ x)))
    go false w = rw (counting_looked e w) (λ x. let y = h w in omega arith)

-- a tick at which beats end
beats_first : (v : ℕ) (vs : List ℕ) (l : Bool) (e : Entry) → HasLeft 1 e
    → after_all (events_at (v ∷ vs) l) e ≡ after_all (events_at vs l) (with_left (v + 2) e)
beats_first v vs l e h = ap (after_all (events_at vs l)) (live_beaten e v (left_live e h))

left_beats : (vs : List ℕ) (v : ℕ) (l : Bool) (e : Entry) (k : ℕ) → HasLeft 1 e
    → ((x : ℕ) → Among x (v ∷ vs) → bit l + k ≤ x + 2) → HasLeft k (after_all (events_at (v ∷ vs) l) e)
left_beats [] v l e k h enough =
    rw (beats_first v [] l e h) (left_look l (with_left (v + 2) e) k (λ x. enough v (at_head refl)))
left_beats (w ∷ vs) v l e k h enough =
    rw (beats_first v (w ∷ vs) l e h)
    (left_beats vs w l (with_left (v + 2) e) k (λ x. omega arith) (λ x m. enough x (in_Tail m)))

-- AN ENTRY THAT IS WATCHED
-- It waits at tick r. `keep` is what its beats leave: 1 for never failed, 2 for never suspect.

pub events-++ : (xs ys : List Event) (e : Entry) → after_all (xs ++ ys) e ≡ after_all ys (after_all xs e)
events-++ [] ys e = refl
events-++ (x ∷ xs) ys e = events-++ xs ys (after x e)

module _ (vs : ℕ → List ℕ) (looks : ℕ → Bool) (keep : ℕ) (least : 1 ≤ keep)
    (covered : (t v : ℕ) → Among v (vs t) → Covers keep vs looks t v) (r : ℕ) (e : Entry) (waiting : e.waiting ≡ true) where
  abbrev pub entry_after : ℕ → Entry
  entry_after n = after_all (events_from vs looks r n) e

  -- as long as no beat ends, it has left what the looks up to then will take, and what it is to keep
  ahead : (n m : ℕ) → Quiet vs (r + n) m → HasLeft (looks_in looks (r + n) m + keep) (entry_after n)
  ahead zero m q = λ w. absurd (true≢false (sym waiting ∙ w))
  ahead (suc n) m q =
      subst (HasLeft (looks_in looks (r + suc n) m + keep)) (sym (events-++ (events_from vs looks r n) (events_at (vs (r + n)) (looks (r + n))) e))
      (subst (λ (t : ℕ). HasLeft (looks_in looks t m + keep) (after_all (events_at (vs (r + n)) (looks (r + n))) (entry_after n))) (sym next)
      (go (vs (r + n)) refl (covered (r + n)) (ahead n)))
    where
      next : r + suc n ≡ r + n + 1
      next = omega arith

      quiet : Quiet vs (r + n + 1) m
      quiet = subst (λ (t : ℕ). Quiet vs t m) next q

      go : (l : List ℕ) → vs (r + n) ≡ l → ((v : ℕ) → Among v l → Covers keep vs looks (r + n) v)
          → ((j : ℕ) → Quiet vs (r + n) j → HasLeft (looks_in looks (r + n) j + keep) (entry_after n))
          → HasLeft (looks_in looks (r + n + 1) m + keep) (after_all (events_at l (looks (r + n))) (entry_after n))
      go [] h c ih =
          left_look (looks (r + n)) (entry_after n) _
          (subst (λ (k : ℕ). HasLeft k (entry_after n)) (add_assoc (bit (looks (r + n))) (looks_in looks (r + n + 1) m) keep) (ih (suc m) (h, quiet)))
      go (v ∷ l) h c ih =
          left_beats l v (looks (r + n)) (entry_after n) _ (λ w. let y = ih 0 tt w in omega arith) (λ x a. omega (arith, (c x a).until m quiet))

  pub keeps : (n : ℕ) → HasLeft keep (entry_after n)
  keeps n = λ w. let y = ahead n 0 tt w in omega arith

  pub never_failed : (n : ℕ) → has_failed (health_of (entry_after n)) ≡ false
  never_failed n = left_live (entry_after n) (λ w. let y = keeps n w in omega arith)
