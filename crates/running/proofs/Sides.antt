-- What is left after a block, and the sides of an IF: where each starts, and where the run goes on after it.
use Prim.Native.Nat.{ℕ, ◌+◌, ◌≤◌, ◌<◌}
use native.Mathlib.Omega.{arith}
use mathlib.Core.Path.{◌≡◌, refl, ap, ap₂, sym, subst, ◌∙◌}
use mathlib.Core.Bool.{Bool, true, false, cond}
use mathlib.Core.List.{List, [], ◌∷◌}
use Rattle.model.specs.declared.Form.{Form}
use Rattle.model.specs.Records.{kind_at}
use Rattle.model.specs.Trees.{Test, Block, branch, size}
use Rattle.reading.specs.Ranges.{Stands}
use Rattle.reading.proofs.FirstKinds.{kind_is}
use Rattle.reading.proofs.Standing.{ending, stands_once, stands_last, stands_one, stands_two}
use Rattle.running.specs.Promises.{extent, closing, closed, passed, chosen, Pending, at_end, and_behind, Chain}

-- WHAT IS LEFT

module _ {f : Form} {s : List ℕ} {to : ℕ} where
  pub pending_within : {k : ℕ} {bs : List Block} → Pending f s to k bs → k ≤ to
  pending_within (at_end e) = omega arith
  pending_within (and_behind B p) = omega (arith, B.before)

  pub pending_inside : {k : ℕ} {bs : List Block} → k ≤ extent s → Pending f s to k bs → to ≤ extent s
  pending_inside l (at_end e) = omega arith
  pending_inside l (and_behind B p) = pending_inside B.stands.ends p

  pub pending_at : {j k : ℕ} {bs : List Block} → j ≡ k → Pending f s to j bs → Pending f s to k bs
  pending_at {bs = bs} e p = subst (λ (i : ℕ). Pending f s to i bs) e p

  -- nothing at the end
  pub pending_none : {k : ℕ} {bs : List Block} → Pending f s to k bs → to ≤ k → bs ≡ []
  pending_none (at_end e) l = refl
  pending_none (and_behind B p) l = absurd (omega (arith, B.before))

-- there is only one such list, whatever the form
pub pending_once : {f g : Form} {s : List ℕ} {to k : ℕ} {bs cs : List Block} → Pending f s to k bs → Pending g s to k cs → bs ≡ cs
pending_once (at_end e) (at_end h) = refl
pending_once (at_end e) (and_behind C q) = absurd (omega (arith, C.before))
pending_once (and_behind B p) (at_end h) = absurd (omega (arith, B.before))
pending_once {s = s} {k = k} (and_behind {b = b} B p) (and_behind {b = c} C q) =
    let e = stands_once b c B.stands C.stands in
    ap₂ (λ (x : Block) (xs : List Block). x ∷ xs) e (pending_once (pending_at (ap (λ (x : Block). passed s k + size x) e) p) q)

-- and one chain at a place: what holds of it holds of every
pub every_chain : {f g : Form} {s : List ℕ} {i to : ℕ} (P : Block → List Block → Type 0) (C : Chain f s i to) → P C.file.block C.pending
    → (D : Chain g s i to) → P D.file.block D.pending
every_chain {i = i} P C h D =
    let e = stands_once C.file.block D.file.block C.file.stands D.file.stands in
    subst (P D.file.block) (pending_once (pending_at (ap (λ (x : Block). i + size x) e) C.follows) D.follows) (subst (λ (b : Block). P b C.pending) e h)

-- WHERE A BLOCK IS CLOSED

pub closing_is : {f : Form} {s : List ℕ} (k : ℕ) (a : Block) → Stands f s (k + 1) (extent s) a → closing s k ≡ k + 1 + size a
unfolding closing
closing_is k a A = ending a A

-- THE PARTS OF AN IF

module _ {f : Form} {s : List ℕ} {i : ℕ} (q : Test) (a d b : Block) (C : Stands f s i (extent s) (branch q a d b)) where
  pub stands_past : Stands f s (i + 3 + size a + size d) (extent s) b
  stands_past = stands_last (i + 3 + size a + size d) b C C.fills.stands.3 C.fills.of_form.3 (omega arith)

  pub second_at : closed s i ≡ i + 2 + size a
  second_at = omega (arith, closing_is i a (stands_one q a d b C))

  -- the side that a test chooses
  abbrev pub side : Bool → Block
  side o = cond o a d

  pub side_there : (o : Bool) → Stands f s (chosen s i o) (extent s) (side o)
  side_there true = stands_one q a d b C
  side_there false = subst (λ (j : ℕ). Stands f s j (extent s) d) (sym second_at) (stands_two q a d b C)

  pub side_after : (o : Bool) → i < chosen s i o
  side_after true = omega arith
  side_after false = omega (arith, second_at)

  side_early : (o : Bool) → chosen s i o + size (side o) < i + 3 + size a + size d
  side_early true = omega arith
  side_early false = omega (arith, second_at)

  pub side_passed : (o : Bool) → passed s (chosen s i o + size (side o)) ≡ i + 3 + size a + size d
  side_passed true =
      let m = kind_is s (i + 1 + size a) C.fills.stands.0.middle in
      let e : i + 2 + size a ≡ i + 1 + size a + 1 = omega arith in
      rw m (omega (arith, closing_is (i + 1 + size a) d (subst (λ (k : ℕ). Stands f s k (extent s) d) e (stands_two q a d b C))))
  side_passed false =
      let e : i + 2 + size a + size d ≡ closed s i + size d = omega (arith, second_at) in
      let m = ap (kind_at s) (sym e) ∙ kind_is s (i + 2 + size a + size d) C.fills.stands.0.last in
      rw m (omega (arith, second_at))

  -- after it, what follows the IF is left
  pub side_pending : {to : ℕ} {bs : List Block} (o : Bool) → Pending f s to (i + size (branch q a d b)) bs → Pending f s to (chosen s i o + size (side o)) (b ∷ bs)
  side_pending o p =
      let e = side_passed o in
      and_behind {k = chosen s i o + size (side o)}
      (record {
        before = omega (arith, side_early o, pending_within p);
        on = omega (arith, side_early o, e);
        stands = subst (λ (j : ℕ). Stands f s j (extent s) b) (sym e) stands_past;
      })
      (pending_at (omega (arith, e)) p)
