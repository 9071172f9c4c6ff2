-- Which test of its fields a record's kind asks for, where one test serves several kinds.
use Prim.Native.Nat.{ℕ, ◌≤◌, ◌<◌}
use native.Mathlib.Omega.{arith}
use mathlib.Core.{Path.◌≡◌, Path.refl, List.[], List.◌∷◌}
use mathlib.Core.Bool.{Bool, true, false, ◌&&◌, ◌||◌, and-true, and_assoc}
use mathlib.Core.Logic.{◌⊎◌, inl, inr}
use borrow.Author.Tests.{eq-eqb, ne_eqb, eqb-false}
use lib.Dec.{eqb, leb}
use Rattle.model.specs.Records.{Rec, SKIP, SET, IF, WHILE, TIMES, CHECK, BEAT}
use Rattle.model.specs.Refusals.{unused, variable, port, test_fits, fields_fit}

-- IF and CHECK
pub test_kind : (r : Rec) (t : Bool) → (r.kind ≡ IF) ⊎ (r.kind ≡ CHECK) → t ≡ test_fits r → (t && eqb r.count 0) ≡ fields_fit r
unfolding fields_fit
test_kind r t (inl k) e = rw (k, e, and-true (eqb r.count 0))
test_kind r t (inr k) e = rw (k, e, and-true (eqb r.count 0))

-- WHILE and TIMES
pub loop_kind : (r : Rec) (t : Bool) → (r.kind ≡ WHILE) ⊎ (r.kind ≡ TIMES) → t ≡ test_fits r → (t && leb 1 r.count && leb r.count 65535) ≡ fields_fit r
unfolding fields_fit
loop_kind r t (inl k) e = rw (k, e, and_assoc (test_fits r) (leb 1 r.count) (leb r.count 65535))
loop_kind r t (inr k) e = rw (k, e, and_assoc (test_fits r) (leb 1 r.count) (leb r.count 65535))

three_or_four : (k : ℕ) → 1 ≤ k → k < 5 → (k ≡ 1 → ⊥) → (k ≡ 2 → ⊥) → (eqb k 3 || eqb k 4) ≡ true
three_or_four k l h a b = go (eqb k 3) refl
  where
    go : (o : Bool) → eqb k 3 ≡ o → (eqb k 3 || eqb k 4) ≡ true
    go true e = rw e
    go false e = rw (e, eq-eqb k 4 (omega (arith, eqb-false k 3 e)))

-- READ and WRITE
pub port_kind : (r : Rec) → 1 ≤ r.kind → r.kind < 5 → (r.kind ≡ SKIP → ⊥) → (r.kind ≡ SET → ⊥)
    → fields_fit r ≡ (unused (r.op ∷ r.value ∷ r.count ∷ []) && variable r.target && port r.left)
unfolding fields_fit
port_kind r l h a b = rw (ne_eqb r.kind 1 a, ne_eqb r.kind 2 b, three_or_four r.kind l h a b)

outside : (k n : ℕ) → (k < 1) ⊎ (5 ≤ k) → 1 ≤ n → n < 5 → k ≡ n → ⊥
outside k n (inl h) a b e = omega arith
outside k n (inr h) a b e = omega arith

-- every other kind
pub bare_kind : (r : Rec) → (r.kind ≡ SKIP → ⊥) → (r.kind ≡ SET → ⊥) → ((r.kind ≡ IF) ⊎ (r.kind ≡ CHECK) → ⊥) → ((r.kind ≡ WHILE) ⊎ (r.kind ≡ TIMES) → ⊥)
    → (r.kind ≡ BEAT → ⊥) → (r.kind < 1) ⊎ (5 ≤ r.kind) → fields_fit r ≡ unused (r.op ∷ r.target ∷ r.left ∷ r.value ∷ r.count ∷ [])
unfolding fields_fit
bare_kind r a b i w o m =
    let k = r.kind in
    simp (
      ne_eqb k 1 a,
      ne_eqb k 2 b,
      ne_eqb k 3 (outside k 3 m (omega arith) (omega arith)),
      ne_eqb k 4 (outside k 4 m (omega arith) (omega arith)),
      ne_eqb k 5 (λ e. i (inl e)),
      ne_eqb k 10 (λ e. i (inr e)),
      ne_eqb k 7 (λ e. w (inl e)),
      ne_eqb k 9 (λ e. w (inr e)),
      ne_eqb k 11 o,
    )
