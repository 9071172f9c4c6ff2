-- Two ends are alike exactly when they are equal.
use Prim.Native.Nat.{ℕ, suc, ◌+◌, ◌≤◌, ◌<◌}
use mathlib.Core.Path.{◌≡◌, refl, sym, ap₂, subst, ◌∙◌}
use mathlib.Core.{Logic.◌↔◌, List.List, List.[], List.◌∷◌}
use mathlib.Core.Bool.{Bool, true, false, not, beq, false≢true, and-false, and-eq-true_iff, ◌&&◌}
use native.Mathlib.{Numerals.add-one, Omega.arith}
use lib.{Dec.eqb, Seq.drop-cons}
use lib.ListN.{length, get_or, drop, drop_of_length-le}
use borrow.Author.Tests.{eqb-true, eq-eqb, ne_eqb, not-true, not-false}
use Rattle.model.specs.{Answers.bit, Chain.End, Rehearsal.same_list, Rehearsal.same_end}
use Rattle.rehearsal.specs.declared.ends.Final.{Final}
use Rattle.rehearsal.specs.Promises.{end_in}

-- EXACTLY OF EQUALS

list_to : (xs ys : List ℕ) → same_list xs ys ≡ true → xs ≡ ys
list_to [] [] e = refl
list_to [] (y ∷ ys) e = absurd (false≢true e)
list_to (x ∷ xs) [] e = absurd (false≢true e)
list_to (x ∷ xs) (y ∷ ys) e =
    let both = (and-eq-true_iff (eqb x y) (same_list xs ys)).0 e in
    ap₂ (λ (z : ℕ) (zs : List ℕ). z ∷ zs) (eqb-true x y both.0) (list_to xs ys both.1)

list_self : (xs : List ℕ) → same_list xs xs ≡ true
list_self [] = refl
list_self (x ∷ xs) = rw (eq-eqb x x refl) (list_self xs)

pub same_list_is : (xs ys : List ℕ) → (same_list xs ys ≡ true) ↔ (xs ≡ ys)
same_list_is xs ys = (list_to xs ys, λ e. subst (λ (zs : List ℕ). same_list xs zs ≡ true) e (list_self xs))

end_to : (a b : End) → same_end a b ≡ true → a ≡ b
end_to a b e =
    let v = same_list a.buffers.variables b.buffers.variables in
    let l = same_list a.buffers.levels b.buffers.levels in
    let m = same_list a.buffers.marks b.buffers.marks in
    let last = (and-eq-true_iff (v && l && m) (eqb a.overran b.overran)).0 e in
    let third = (and-eq-true_iff (v && l) m).0 last.0 in
    let first = (and-eq-true_iff v l).0 third.0 in
    λ i. record {
      buffers = record {
        variables = list_to a.buffers.variables b.buffers.variables first.0 i;
        levels = list_to a.buffers.levels b.buffers.levels first.1 i;
        marks = list_to a.buffers.marks b.buffers.marks third.1 i;
      };
      overran = eqb-true a.overran b.overran last.1 i;
    }

end_self : (a : End) → same_end a a ≡ true
end_self a = rw (list_self a.buffers.variables, list_self a.buffers.levels, list_self a.buffers.marks) (eq-eqb a.overran a.overran refl)

pub same_end_is : (a b : End) → (same_end a b ≡ true) ↔ (a ≡ b)
same_end_is a b = (end_to a b, λ e. subst (λ (z : End). same_end a z ≡ true) e (end_self a))

pub bit_one : (o : Bool) → (bit o ≡ 1) ↔ (o ≡ true)
bit_one true = (λ e. refl, λ e. refl)
bit_one false = (λ e. absurd (omega (arith, e)), λ e. absurd (false≢true e))
