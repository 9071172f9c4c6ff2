-- A relation is looked up in three bits of a number: whether it holds of less, of equal and of more.
use Rattle.std.proofs.Common.{◌≡◌, ℕ, zero, suc, ◌+◌, ◌*◌, ◌/◌, ◌%◌, ◌^◌, ◌<◌, Bool, true, false, cond, not}
use Rattle.std.proofs.Common.{refl, ltb-false, ltb-true, le-ltb, lt-ltb, ne_eqb, eqb-true, le-leb}
use native.Mathlib.{Omega.arith, Nat.lt_of_not-le}
use lib.{Dec.eqb, Dec.ltb}
use borrow.Author.Tests.{eqb-false, lt-leb}
use Rattle.model.specs.Runs.{compares}
use Rattle.stepping.specs.Steps.{ordered}

-- what holds of six numbers holds of every relation
of_relations : (P : ℕ → Type 0) → P 0 → P 1 → P 2 → P 3 → P 4 → P 5 → (o : ℕ) → o < 6 → P o
of_relations P a b c d e f zero h = a
of_relations P a b c d e f (suc zero) h = b
of_relations P a b c d e f (suc (suc zero)) h = c
of_relations P a b c d e f (suc (suc (suc zero))) h = d
of_relations P a b c d e f (suc (suc (suc (suc zero)))) h = e
of_relations P a b c d e f (suc (suc (suc (suc (suc zero))))) h = f
of_relations P a b c d e f (suc (suc (suc (suc (suc (suc o)))))) h = absurd (omega arith)

-- the bit of a relation and an order
abbrev bit : ℕ → ℕ → Bool
bit o k = eqb (214634 / 2 ^ (3 * o + k) % 2) 1

-- compares once the order is known
abbrev answer : ℕ → (equal less no_more more no_less : Bool) → Bool
answer o equal less no_more more no_less =
    cond (eqb o 0) equal (cond (eqb o 1) (not equal) (cond (eqb o 2) less (cond (eqb o 3) no_more (cond (eqb o 4) more no_less))))

pub compares_bit : (o a b : ℕ) → o < 6 → eqb (214634 / 2 ^ (3 * o + ordered a b) % 2) 1 ≡ compares o a b
compares_bit o a b h = go (ltb a b) refl (eqb a b) refl
  where
    go : (l : Bool) → ltb a b ≡ l → (e : Bool) → eqb a b ≡ e → bit o (cond (ltb a b) 0 (cond (eqb a b) 1 2)) ≡ compares o a b
    go true x e y =
        let l = ltb-true a b x in
        rw (x, ne_eqb a b (λ z. omega arith), le-leb a b (omega arith), le-ltb b a (omega arith), lt-leb b a l)
        (of_relations (λ k. bit k 0 ≡ answer k false true true false false) refl refl refl refl refl refl o h)
    go false x true y =
        let z = eqb-true a b y in
        rw (x, y, le-leb a b (omega arith), le-ltb b a (omega arith), le-leb b a (omega arith))
        (of_relations (λ k. bit k 1 ≡ answer k true false true false true) refl refl refl refl refl refl o h)
    go false x false y =
        let l : b < a = lt_of_not-le (λ m. eqb-false a b y (omega (arith, ltb-false a b x))) in
        rw (x, y, lt-leb a b l, lt-ltb b a l, le-leb b a (omega arith))
        (of_relations (λ k. bit k 2 ≡ answer k false false false true true) refl refl refl refl refl refl o h)
