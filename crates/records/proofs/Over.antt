-- A list laid over the front of a buffer, piece by piece: from part-start or part-first, by part-put and part-lent, to part_end or part-last.
use Rattle.std.proofs.Common.{◌≡◌, ℕ, ◌+◌, ◌-◌, ◌<◌, ◌≤◌, List, [], ◌∷◌, ◌++◌, length, take, drop, set}
use Rattle.std.proofs.Common.{sym, refl, ap, ◌∙◌, append_assoc, append-nil, length-append, length-drop, drop_of_length-le, take_all, drop-cons, drop-drop}
use native.Mathlib.{Numerals.add-one, Omega.arith}
use lib.Seq.{set_at, take-append_seam, drop-append_seam}
use Rattle.model.specs.Records.{over}

-- a list that has room for what is laid over it keeps its length
over_length : (w old : List ℕ) {new : List ℕ} → new ≡ over w old → length w ≤ length old → length new ≡ length old
over_length w old e h = ap length e ∙ simp (length-append, length-drop) (omega arith)

-- one store after p
over_put : (p xs : List ℕ) (v : ℕ) → length p < length xs → set (over p xs) (length p) v ≡ over (p ++ v ∷ []) xs
over_put p xs v h =
    ap (λ (r : List ℕ). set (p ++ r) (length p) v) (drop-cons xs (length p) 0 h)
    ∙ set_at p _ _ v (length p) refl
    ∙ simp (length-append, add-one, append_assoc)

-- a callee was lent what lies after p, and laid q over its front
over_lent : (p q xs : List ℕ) (k : ℕ) → length p + length q ≤ length xs → length xs ≤ length p + k
    → take (length p) (over p xs) ++ (over q (drop (length p) (over p xs)) ++ drop k (drop (length p) (over p xs))) ≡ over (p ++ q) xs
over_lent p q xs k h g =
    let short : length (drop (length p) xs) ≤ k = simp length-drop (omega arith) in
    simp (take-append_seam, drop-append_seam, drop_of_length-le (drop (length p) xs) short, append-nil, append_assoc, length-append, drop-drop)

-- Of whole, all but rest is laid over old, which has room for whole. The buffer is now new, and the next byte goes to index at.
pub record Part (whole rest old new : List ℕ) (at : ℕ) : Type 0 where
  pub done : List ℕ
  pub split : whole ≡ done ++ rest
  pub wrote : new ≡ over done old
  pub upto : at ≡ length done
  pub room : length whole ≤ length old

-- nothing is laid yet
pub part_start : (w old : List ℕ) → length w ≤ length old → Part w w old old 0
part_start w old h = record { done = []; split = refl; wrote = refl; upto = refl; room = h }

-- a callee that was lent the whole buffer has laid bs over its front
pub part_first : {rest old new : List ℕ} {n : ℕ} (bs : List ℕ) → length (bs ++ rest) ≤ length old → new ≡ over bs old → n ≡ length bs → Part (bs ++ rest) rest old new n
part_first bs h e en = record { done = bs; split = refl; wrote = e; upto = en; room = h }

module _ {w rest old new : List ℕ} {at : ℕ} where
  -- what is left has room
  pub part_room : Part w rest old new at → at + length rest ≤ length old
  part_room p = omega (arith, simp length-append at (ap length p.split))

  -- the buffer keeps its length
  pub part_length : Part w rest old new at → length new ≡ length old
  part_length p = over_length p.done old p.wrote (omega (arith, simp length-append at (ap length p.split)))

-- the next index is within the buffer
pub part_at : {w rest old new : List ℕ} {at : ℕ} → Part w rest old new at → at ≤ length new
part_at p = omega (arith, part_room p, part_length p)

-- one store
pub part_put : {w rest old new : List ℕ} {at v : ℕ} → Part w (v ∷ rest) old new at → Part w rest old (set new at v) (at + 1)
part_put {w} {rest} {old} {new} {at} {v} p =
    let h : at + length (v ∷ rest) ≤ length old = part_room p in
    record {
      done = p.done ++ v ∷ [];
      split = p.split ∙ simp append_assoc;
      wrote = rw (p.wrote, p.upto) (over_put p.done old v (omega arith));
      upto = simp length-append (omega arith);
      room = p.room;
    }

-- what &mut out[at..] lends
abbrev pub lent : List ℕ → ℕ → List ℕ
lent xs at = take (length xs - at) (drop at xs)

-- the buffer after the loan, of which the callee left ys
abbrev pub back : List ℕ → ℕ → List ℕ → List ℕ
back xs at ys = take at xs ++ (ys ++ drop (length xs - at) (drop at xs))

-- what is lent is the rest
lent_is : (xs : List ℕ) (at : ℕ) → lent xs at ≡ drop at xs
lent_is xs at = take_all (length xs - at) (drop at xs) (simp length-drop (omega arith))

-- its length
pub lent_length : (xs : List ℕ) (at : ℕ) → length (lent xs at) ≡ length xs - at
lent_length xs at = rw (lent_is, length-drop)

-- what is left has room in what is lent, and so has the first piece of it
pub part_fits_last : {w bs old new : List ℕ} {at : ℕ} → Part w bs old new at → length bs ≤ length (lent new at)
part_fits_last {new = new} {at = at} p = omega (arith, part_room p, part_length p, lent_length new at)

pub part_fits : {w old new : List ℕ} {at : ℕ} (bs rest : List ℕ) → Part w (bs ++ rest) old new at → length bs ≤ length (lent new at)
part_fits bs rest p = omega (arith, part_fits_last p, length-append bs rest)

-- a callee has laid bs over the front of what it was lent
pub part_lent : {w rest old new ys : List ℕ} {at n : ℕ} (bs : List ℕ) → Part w (bs ++ rest) old new at → ys ≡ over bs (lent new at) → n ≡ length bs
    → Part w rest old (back new at ys) (at + n)
part_lent {w} {rest} {old} {new} {ys} {at} {n} bs p e en =
    let h : at + (length bs + length rest) ≤ length old = rw length-append at (part_room p) in
    let l : length new ≡ length old = part_length p in
    let k : ℕ = length old - length p.done in
    record {
      done = p.done ++ bs;
      split = p.split ∙ simp append_assoc;
      wrote = rw (e, lent_is, l, p.wrote, p.upto) (over_lent p.done bs old k (omega arith) (omega arith));
      upto = simp length-append (omega arith);
      room = p.room;
    }

-- all is laid
pub part_end : {w old new : List ℕ} {at : ℕ} → Part w [] old new at → (new ≡ over w old) × (at ≡ length w)
part_end p =
    let e : _ ≡ p.done = p.split ∙ append-nil p.done in
    (p.wrote ∙ ap (λ (b : List ℕ). over b _) (sym e), p.upto ∙ ap length (sym e))

-- the last callee lays all that is left
pub part_last : {w bs old new ys : List ℕ} {at : ℕ} → Part w bs old new at → ys ≡ over bs (lent new at) → back new at ys ≡ over w old
part_last {w} {bs} p e = (part_end (part_lent {n = length bs} bs (rw (← append-nil bs) at p) e refl)).0

-- and has counted it
pub part_count : {w bs old new : List ℕ} {at n : ℕ} → Part w bs old new at → n ≡ length bs → at + n ≡ length w
part_count p e = omega (arith, simp length-append at (ap length p.split))
