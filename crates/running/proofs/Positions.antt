-- The records of a file with no loop as places from which it is run: what stands at each, and what is left after it.
use Prim.Native.Nat.{ℕ, zero, suc, ◌+◌, ◌-◌, ◌≤◌}
use native.Mathlib.Omega.{arith}
use mathlib.Core.Path.{◌≡◌, refl, ap, sym, subst, ◌∙◌}
use mathlib.Core.{Bool.Bool, Bool.true, Bool.false, List.List, List.[], List.◌∷◌}
use lib.Dec.{leb}
use borrow.Author.Tests.{le-leb, lt-leb, leb-true, leb-false}
use Rattle.model.specs.declared.{Form.Form, Settings.Settings}
use Rattle.model.specs.Trees.{Test, Block, nil, skip, act, branch, while, times, ◌⧺◌, size}
use Rattle.model.specs.{Times.time, Stopping.rest, Placement.LoopFree}
use Rattle.model.specs.Standing.{At, OfForm}
use Rattle.laws.proofs.{Trees.⧺-assoc}
use Rattle.theory.proofs.{Times.time-⧺, Left.rest_0}
use Rattle.reading.specs.Ranges.{Stands}
use Rattle.reading.proofs.Standing.{stands_last, stands_one, stands_two}
use Rattle.running.specs.Promises.{extent, Pending, Chain}
use Rattle.running.proofs.Sides.{pending_at, stands_past, second_at, side_pending}

-- WHAT IS LEFT AT A RECORD OF AN IF

-- the record j, with an IF at i and m and n records in its sides: the IF, of the first side or its ELSE, of the second or its END, or after
data Split (i m n j : ℕ) : Type 0 where
  here : i ≡ j → Split i m n j
  one : i + 1 ≤ j → j ≤ i + 1 + m → Split i m n j
  two : i + 2 + m ≤ j → j ≤ i + 2 + m + n → Split i m n j
  past : i + 3 + m + n ≤ j → Split i m n j

split : (i m n j : ℕ) → i ≤ j → Split i m n j
split i m n j l = go (leb j i) refl (leb j (i + 1 + m)) refl (leb j (i + 2 + m + n)) refl
  where
    go : (x : Bool) → leb j i ≡ x → (y : Bool) → leb j (i + 1 + m) ≡ y → (z : Bool) → leb j (i + 2 + m + n) ≡ z → Split i m n j
    go true e y f z g = here (omega (arith, leb-true j i e))
    go false e true f z g = one (omega (arith, leb-false j i e)) (leb-true j (i + 1 + m) f)
    go false e false f true g = two (omega (arith, leb-false j (i + 1 + m) f)) (leb-true j (i + 2 + m + n) g)
    go false e false f false g = past (omega (arith, leb-false j (i + 2 + m + n) g))

module _ (q : Test) (a d b : Block) where
  rest_one : (j k : ℕ) → k ≤ size a → j ≡ 1 + k → rest (branch q a d b) j ≡ rest a k ⧺ b
  rest_one zero k l e = absurd (omega arith)
  rest_one (suc j) k l e = let y : j ≡ k = omega arith in rw (y, le-leb k (size a) l)

  rest_two : (j k : ℕ) → k ≤ size d → j ≡ 2 + size a + k → rest (branch q a d b) j ≡ rest d k ⧺ b
  rest_two zero k l e = absurd (omega arith)
  rest_two (suc j) k l e =
      let y : j - (1 + size a) ≡ k = omega arith in
      rw (lt-leb j (size a) (omega arith), le-leb j (1 + size a + size d) (omega arith), y)

  rest_past : (j k : ℕ) → j ≡ 3 + size a + size d + k → rest (branch q a d b) j ≡ rest b k
  rest_past zero k e = absurd (omega arith)
  rest_past (suc j) k e =
      let y : j - (2 + size a + size d) ≡ k = omega arith in
      rw (lt-leb j (size a) (omega arith), lt-leb j (1 + size a + size d) (omega arith), y)

-- WHAT STANDS AT A RECORD

-- blocks one after another
abbrev pub joined : List Block → Block
joined [] = nil
joined (b ∷ bs) = b ⧺ joined bs

-- at the record j stands a block, and it and those after it are c
pub record Position (f : Form) (s : List ℕ) (to j : ℕ) (c : Block) : Type 0 where
  pub chain : Chain f s j to
  pub is : chain.file.block ⧺ joined chain.pending ≡ c

module _ {f : Form} {s : List ℕ} {to i j : ℕ} where
  -- at its first record, the whole block
  whole : (b : Block) (bs : List Block) → Stands f s i (extent s) b → Pending f s to (i + size b) bs → i ≡ j → Position f s to j (rest b (j - i) ⧺ joined bs)
  whole b bs B p e =
      let z : j - i ≡ 0 = omega arith in
      record {
        chain = record {
          file = record { block = b; stands = subst (λ (k : ℕ). Stands f s k (extent s) b) e B; inside = omega arith };
          pending = bs;
          follows = pending_at (omega arith) p;
        };
        is = ap (λ (x : Block). x ⧺ joined bs) (sym (ap (rest b) z ∙ rest_0 b));
      }

  -- after a record that opens no block
  plain : (c b : Block) (bs : List Block) → size c ≡ 1 + size b → ((k : ℕ) → rest c (suc k) ≡ rest b k) → At s (i + 1) b → OfForm f b
      → (Stands f s (i + 1) (extent s) b → Pending f s to (i + 1 + size b) bs → i + 1 ≤ j → Position f s to j (rest b (j - (i + 1)) ⧺ joined bs))
      → Stands f s i (extent s) c → Pending f s to (i + size c) bs → i ≤ j → Position f s to j (rest c (j - i) ⧺ joined bs)
  plain c b bs n r at o next C p l = go (leb j i) refl
    where
      go : (x : Bool) → leb j i ≡ x → Position f s to j (rest c (j - i) ⧺ joined bs)
      go true e = whole c bs C p (omega (arith, leb-true j i e))
      go false e =
          let h : i + 1 ≤ j = omega (arith, leb-false j i e) in
          let k : j - i ≡ suc (j - (i + 1)) = omega arith in
          subst (λ (x : Block). Position f s to j (x ⧺ joined bs)) (sym (ap (rest c) k ∙ r (j - (i + 1))))
          (next (stands_last (i + 1) b C at o (omega arith)) (pending_at (omega arith) p) h)

  in_branch : (q : Test) (a d b : Block) (bs : List Block) → Stands f s i (extent s) (branch q a d b) → Pending f s to (i + size (branch q a d b)) bs
      → (i + 1 ≤ j → j ≤ i + 1 + size a → Pending f s to (i + 1 + size a) (b ∷ bs) → Position f s to j (rest a (j - (i + 1)) ⧺ (b ⧺ joined bs)))
      → (i + 2 + size a ≤ j → j ≤ i + 2 + size a + size d → Pending f s to (i + 2 + size a + size d) (b ∷ bs) → Position f s to j (rest d (j - (i + 2 + size a)) ⧺ (b ⧺ joined bs)))
      → (i + 3 + size a + size d ≤ j → Pending f s to (i + 3 + size a + size d + size b) bs → Position f s to j (rest b (j - (i + 3 + size a + size d)) ⧺ joined bs))
      → Split i (size a) (size d) j
      → Position f s to j (rest (branch q a d b) (j - i) ⧺ joined bs)
  in_branch q a d b bs C p A D B (here e) = whole (branch q a d b) bs C p e
  in_branch q a d b bs C p A D B (one l h) =
      let e = rest_one q a d b (j - i) (j - (i + 1)) (omega arith) (omega arith) in
      subst (Position f s to j) (sym (ap (λ (x : Block). x ⧺ joined bs) e ∙ ⧺-assoc (rest a (j - (i + 1))) b (joined bs)))
      (A l h (side_pending q a d b C true p))
  in_branch q a d b bs C p A D B (two l h) =
      let k = j - (i + 2 + size a) in
      let e = rest_two q a d b (j - i) k (omega arith) (omega arith) in
      let z = ap (λ (n : ℕ). n + size d) (second_at q a d b C) in
      subst (Position f s to j) (sym (ap (λ (x : Block). x ⧺ joined bs) e ∙ ⧺-assoc (rest d k) b (joined bs)))
      (D l h (pending_at z (side_pending q a d b C false p)))
  in_branch q a d b bs C p A D B (past l) =
      let e = rest_past q a d b (j - i) (j - (i + 3 + size a + size d)) (omega arith) in
      subst (λ (x : Block). Position f s to j (x ⧺ joined bs)) (sym e) (B l (pending_at (omega arith) p))

pub position : {f : Form} {s : List ℕ} {to : ℕ} (b : Block) (i j : ℕ) (bs : List Block) → LoopFree b → Stands f s i (extent s) b → Pending f s to (i + size b) bs → i ≤ j → j ≤ i + size b
    → Position f s to j (rest b (j - i) ⧺ joined bs)
position nil i j bs u B p l m = whole nil bs B p (omega arith)
position (skip n b) i j bs u B p l m =
    plain (skip n b) b bs refl (λ k. refl) B.fills.stands.1 B.fills.of_form.1 (λ C r h. position b (i + 1) j bs u C r h (omega arith)) B p l
position (act c b) i j bs u B p l m =
    plain (act c b) b bs refl (λ k. refl) B.fills.stands.1 B.fills.of_form.1 (λ C r h. position b (i + 1) j bs u C r h (omega arith)) B p l
position (branch q a d b) i j bs u C p l m =
    in_branch q a d b bs C p
    (λ l h r. position a (i + 1) j (b ∷ bs) u.0 (stands_one q a d b C) r l h)
    (λ l h r. position d (i + 2 + size a) j (b ∷ bs) u.1 (stands_two q a d b C) r l h)
    (λ l r. position b (i + 3 + size a + size d) j bs u.2 (stands_past q a d b C) r l (omega arith))
    (split i (size a) (size d) j l)
position (while q n a b) i j bs u B p l m = absurd u
position (times q n a b) i j bs u B p l m = absurd u

-- HOW LONG IT TAKES

branch_shorter : (σ : Settings) (q : Test) (a d b : Block) (j : ℕ)
    → ((k : ℕ) → time σ (rest a k) ≤ time σ a)
    → ((k : ℕ) → time σ (rest d k) ≤ time σ d)
    → ((k : ℕ) → time σ (rest b k) ≤ time σ b)
    → Split 0 (size a) (size d) j
    → time σ (rest (branch q a d b) j) ≤ time σ (branch q a d b)
branch_shorter σ q a d b j A D B (here e) = rw (← e) (omega arith)
branch_shorter σ q a d b j A D B (one l h) =
    let e = ap (time σ) (rest_one q a d b j (j - 1) (omega arith) (omega arith)) ∙ time-⧺ σ (rest a (j - 1)) b in
    omega (arith, e, A (j - 1))
branch_shorter σ q a d b j A D B (two l h) =
    let k = j - (2 + size a) in
    let e = ap (time σ) (rest_two q a d b j k (omega arith) (omega arith)) ∙ time-⧺ σ (rest d k) b in
    omega (arith, e, D k)
branch_shorter σ q a d b j A D B (past l) =
    let k = j - (3 + size a + size d) in
    omega (arith, ap (time σ) (rest_past q a d b j k (omega arith)), B k)

-- what is left of a block takes no longer than the block
pub rest_shorter : (σ : Settings) (b : Block) (j : ℕ) → LoopFree b → time σ (rest b j) ≤ time σ b
rest_shorter σ nil j u = omega arith
rest_shorter σ (skip n b) zero u = omega arith
rest_shorter σ (skip n b) (suc j) u = omega (arith, rest_shorter σ b j u)
rest_shorter σ (act p b) zero u = omega arith
rest_shorter σ (act p b) (suc j) u = omega (arith, rest_shorter σ b j u)
rest_shorter σ (branch q a d b) j u =
    branch_shorter σ q a d b j (λ k. rest_shorter σ a k u.0) (λ k. rest_shorter σ d k u.1) (λ k. rest_shorter σ b k u.2)
    (split 0 (size a) (size d) j (omega arith))
rest_shorter σ (while q n a b) j u = absurd u
rest_shorter σ (times q n a b) j u = absurd u
