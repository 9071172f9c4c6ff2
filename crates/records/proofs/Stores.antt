-- Lists stored in a longer list one after another, or by way of a loan of its rest.
use Rattle.std.proofs.Common.{◌≡◌, ℕ, suc, ◌+◌, ◌-◌, ◌≤◌, List, [], ◌∷◌, ◌++◌, length, drop, set, sym, ap, ◌∙◌, append_assoc, append-nil, length-drop, drop_of_length-le, take_all, drop-drop}
use native.Mathlib.{Nat.zero-add, Omega.arith}
use lib.Seq.{sets, sets-eq}
use Rattle.model.specs.Records.{over}
use Rattle.records.proofs.Over.{lent, back}

sets_on : (l : List ℕ) (i j : ℕ) (a b : List ℕ) → i + length a ≡ j → sets (sets l i a) j b ≡ sets l i (a ++ b)
sets_on l i j [] b e = let h : i ≡ j = omega arith in ap (λ (k : ℕ). sets l k b) (sym h)
sets_on l i j (x ∷ a) b e = sets_on (set l i x) (suc i) j a b (omega arith)

-- what was stored from i on, and then from j on
pub stored_on : (old : List ℕ) (i : ℕ) (a b : List ℕ) {mid new : List ℕ} {j : ℕ} → mid ≡ sets old i a → i + length a ≡ j → new ≡ sets mid j b → new ≡ sets old i (a ++ b)
stored_on old i a b {mid} {new} {j} e h f = f ∙ ap (λ (l : List ℕ). sets l j b) e ∙ sets_on old i j a b h

-- a callee has laid a over the front of what it was lent
pub stored_lent : (old : List ℕ) (i : ℕ) (a : List ℕ) {ys : List ℕ} → i + length a ≤ length old → ys ≡ over a (lent old i) → back old i ys ≡ sets old i a
stored_lent old i a {ys} h e =
    let short : length (drop i old) ≤ length old - i = simp length-drop (omega arith) in
    rw (e, sets-eq a old i h, take_all (length old - i) (drop i old) short, drop_of_length-le (drop i old) short, append-nil, append_assoc, drop-drop)

-- what was stored from 0 on lies over the front
pub stored_over : (old a : List ℕ) → length a ≤ length old → sets old 0 a ≡ over a old
stored_over old a h = sets-eq a old 0 (omega arith) ∙ rw zero-add
