-- A block stands in a list of bytes from a record index on, and it does where the bytes' records are its own.
use Prim.Native.Nat.{ℕ, zero, suc, ◌+◌}
use native.Mathlib.Omega.{arith}
use mathlib.Core.Path.{◌≡◌, refl, ap, ap₂, sym, ◌∙◌}
use mathlib.Core.List.{List, [], ◌∷◌, ◌++◌, append_assoc, append-nil}
use Rattle.model.specs.Records.{Rec, record_at, first_records, IF, WHILE, TIMES}
use Rattle.model.specs.Trees.{Test, Block, nil, skip, act, branch, while, times, size, test_rec, skip_rec, act_rec, else_rec, end_rec, linearise, tree_of}
use Rattle.model.specs.Standing.{At, LoopAt}
use Rattle.laws.proofs.{Bytes.records_at, Bytes.records_at_suc, Trees.tree_of_linearise}

-- the first of n records from i on is r, and the others are rs
record Starts (s : List ℕ) (i n : ℕ) (r : Rec) (rs : List Rec) : Type 0 where
  left : ℕ
  counts : n ≡ suc left
  same : record_at s i ≡ r
  after : records_at s (i + 1) left ≡ rs

starts : (s : List ℕ) (i n : ℕ) (r : Rec) (rs : List Rec) → records_at s i n ≡ r ∷ rs → Starts s i n r rs
unfolding first_records
starts s i zero r rs e = let z : ◌≡◌ {A = ℕ} 0 1 = cc in absurd (omega arith)
starts s i (suc n) r rs e = let f = sym (records_at_suc s i n) ∙ e in record { left = n; counts = refl; same = cc; after = cc }

-- the first of n records from i on are those of b, and the others are rs
pub record Begins (s : List ℕ) (i n : ℕ) (b : Block) (rs : List Rec) : Type 0 where
  pub stands : At s i b
  pub left : ℕ
  pub counts : n ≡ size b + left
  pub after : records_at s (i + size b) left ≡ rs

from : (s : List ℕ) (i j n : ℕ) (rs : List Rec) → i ≡ j → records_at s i n ≡ rs → records_at s j n ≡ rs
from s i j n rs e h = ap (λ (k : ℕ). records_at s k n) (sym e) ∙ h

-- a record r that opens no block, and the block after it
record Led (s : List ℕ) (i n : ℕ) (r : Rec) (b : Block) (rs : List Rec) : Type 0 where
  is : record_at s i ≡ r
  follows : At s (i + 1) b
  left : ℕ
  counts : n ≡ 1 + size b + left
  after : records_at s (i + (1 + size b)) left ≡ rs

led : (s : List ℕ) (i n : ℕ) (r : Rec) (b : Block) (rs : List Rec)
    → records_at s i n ≡ r ∷ (linearise b ++ rs)
    → ((m : ℕ) → records_at s (i + 1) m ≡ linearise b ++ rs → Begins s (i + 1) m b rs)
    → Led s i n r b rs
led s i n r b rs e next =
    let o = starts s i n r (linearise b ++ rs) e in
    let B = next o.left o.after in
    record {
      is = o.same;
      follows = B.stands;
      left = B.left;
      counts = omega arith;
      after = from s (i + 1 + size b) (i + (1 + size b)) B.left rs (omega arith) B.after;
    }

-- a loop's body, and what follows its END
record Looped (s : List ℕ) (i n k : ℕ) (q : Test) (c : ℕ) (a b : Block) (rs : List Rec) : Type 0 where
  opens : LoopAt s i k q c (size a)
  body : At s (i + 1) a
  follows : At s (i + 2 + size a) b
  left : ℕ
  counts : n ≡ 2 + size a + size b + left
  after : records_at s (i + (2 + size a + size b)) left ≡ rs

looped : (s : List ℕ) (i n k : ℕ) (q : Test) (c : ℕ) (a b : Block) (rs : List Rec)
    → records_at s i n ≡ test_rec k q c ∷ (linearise a ++ end_rec ∷ (linearise b ++ rs))
    → ((m : ℕ) → records_at s (i + 1) m ≡ linearise a ++ end_rec ∷ (linearise b ++ rs) → Begins s (i + 1) m a (end_rec ∷ (linearise b ++ rs)))
    → ((m : ℕ) → records_at s (i + 2 + size a) m ≡ linearise b ++ rs → Begins s (i + 2 + size a) m b rs)
    → Looped s i n k q c a b rs
looped s i n k q c a b rs e go next =
    let o = starts s i n _ _ e in
    let A = go o.left o.after in
    let z = starts s (i + 1 + size a) A.left end_rec (linearise b ++ rs) A.after in
    let B = next z.left (from s (i + 1 + size a + 1) (i + 2 + size a) z.left (linearise b ++ rs) (omega arith) z.after) in
    record {
      opens = record { is = o.same; last = z.same };
      body = A.stands;
      follows = B.stands;
      left = B.left;
      counts = omega arith;
      after = from s (i + 2 + size a + size b) (i + (2 + size a + size b)) B.left rs (omega arith) B.after;
    }

pub begins : (s : List ℕ) (i n : ℕ) (b : Block) (rs : List Rec) → records_at s i n ≡ linearise b ++ rs → Begins s i n b rs
unfolding linearise
begins s i n nil rs e = record { stands = tt; left = n; counts = omega arith; after = from s i (i + 0) n rs (omega arith) e }
begins s i n (skip m b) rs e =
    let L = led s i n (skip_rec m) b rs e (λ m f. begins s (i + 1) m b rs f) in
    record { stands = (L.is, L.follows); left = L.left; counts = L.counts; after = L.after }
begins s i n (act p b) rs e =
    let L = led s i n (act_rec p) b rs e (λ m f. begins s (i + 1) m b rs f) in
    record { stands = (L.is, L.follows); left = L.left; counts = L.counts; after = L.after }
begins s i n (branch q a d b) rs e =
    let follow = linearise b ++ rs in
    let o = starts s i n (test_rec IF q 0) (linearise a ++ else_rec ∷ (linearise d ++ end_rec ∷ follow)) (simp append_assoc at e) in
    let A = begins s (i + 1) o.left a (else_rec ∷ (linearise d ++ end_rec ∷ follow)) o.after in
    let m = starts s (i + 1 + size a) A.left else_rec (linearise d ++ end_rec ∷ follow) A.after in
    let at_d = from s (i + 1 + size a + 1) (i + 2 + size a) m.left (linearise d ++ end_rec ∷ follow) (omega arith) m.after in
    let D = begins s (i + 2 + size a) m.left d (end_rec ∷ follow) at_d in
    let z = starts s (i + 2 + size a + size d) D.left end_rec follow D.after in
    let at_b = from s (i + 2 + size a + size d + 1) (i + 3 + size a + size d) z.left follow (omega arith) z.after in
    let B = begins s (i + 3 + size a + size d) z.left b rs at_b in
    record {
      stands = (record { is = o.same; middle = m.same; last = z.same }, A.stands, D.stands, B.stands);
      left = B.left;
      counts = omega arith;
      after = from s (i + 3 + size a + size d + size b) (i + (3 + size a + size d + size b)) B.left rs (omega arith) B.after;
    }
begins s i n (while q c a b) rs e =
    let L = looped s i n WHILE q c a b rs (simp append_assoc at e) (λ m f. begins s (i + 1) m a (end_rec ∷ (linearise b ++ rs)) f) (λ m f. begins s (i + 2 + size a) m b rs f) in
    record { stands = (L.opens, L.body, L.follows); left = L.left; counts = L.counts; after = L.after }
begins s i n (times q c a b) rs e =
    let L = looped s i n TIMES q c a b rs (simp append_assoc at e) (λ m f. begins s (i + 1) m a (end_rec ∷ (linearise b ++ rs)) f) (λ m f. begins s (i + 2 + size a) m b rs f) in
    record { stands = (L.opens, L.body, L.follows); left = L.left; counts = L.counts; after = L.after }

-- a record before others
leads : (s : List ℕ) (i j k n : ℕ) (r : Rec) (rs : List Rec) → record_at s i ≡ r → i + 1 ≡ j → n ≡ suc k → records_at s j k ≡ rs → records_at s i n ≡ r ∷ rs
leads s i j k n r rs h e c t = ap (records_at s i) c ∙ records_at_suc s i k ∙ ap₂ (λ (x : Rec) (xs : List Rec). x ∷ xs) h (from s j (i + 1) k rs (sym e) t)

-- a loop, its body and what follows it
loop_stood : (s : List ℕ) (i k n o : ℕ) (q : Test) (m : ℕ) (a b : Block) (rs : List Rec) → LoopAt s i o q m (size a) → n ≡ 2 + size a + size b + k
    → ((k n : ℕ) (rs : List Rec) → n ≡ size a + k → records_at s (i + 1 + size a) k ≡ rs → records_at s (i + 1) n ≡ linearise a ++ rs)
    → records_at s (i + 2 + size a) (size b + k) ≡ linearise b ++ rs
    → records_at s i n ≡ test_rec o q m ∷ (linearise a ++ end_rec ∷ (linearise b ++ rs))
loop_stood s i k n o q m a b rs h c body follows =
    let z = leads s (i + 1 + size a) (i + 2 + size a) (size b + k) (suc (size b + k)) end_rec (linearise b ++ rs) h.last (omega arith) refl follows in
    let A = body (suc (size b + k)) (size a + suc (size b + k)) (end_rec ∷ (linearise b ++ rs)) refl z in
    leads s i (i + 1) (size a + suc (size b + k)) n (test_rec o q m) (linearise a ++ end_rec ∷ (linearise b ++ rs)) h.is refl (omega arith) A

-- where a block stands, its records are read, before any others
stood : (s : List ℕ) (b : Block) (i j k n : ℕ) (rs : List Rec) → At s i b → i + size b ≡ j → n ≡ size b + k → records_at s j k ≡ rs
    → records_at s i n ≡ linearise b ++ rs
unfolding linearise
stood s nil i j k n rs h e c t = ap (records_at s i) (omega arith) ∙ from s j i k rs (omega arith) t
stood s (skip m b) i j k n rs h e c t =
    leads s i (i + 1) (size b + k) n (skip_rec m) (linearise b ++ rs) h.0 refl (omega arith)
    (stood s b (i + 1) j k (size b + k) rs h.1 (omega arith) refl t)
stood s (act p b) i j k n rs h e c t =
    leads s i (i + 1) (size b + k) n (act_rec p) (linearise b ++ rs) h.0 refl (omega arith)
    (stood s b (i + 1) j k (size b + k) rs h.1 (omega arith) refl t)
stood s (branch q a d b) i j k n rs h e c t =
    let B = stood s b (i + 3 + size a + size d) j k (size b + k) rs h.3 (omega arith) refl t in
    let z = leads s (i + 2 + size a + size d) (i + 3 + size a + size d) (size b + k) (suc (size b + k)) end_rec (linearise b ++ rs) h.0.last (omega arith) refl B in
    let D = stood s d (i + 2 + size a) (i + 2 + size a + size d) (suc (size b + k)) (size d + suc (size b + k)) (end_rec ∷ (linearise b ++ rs)) h.2 refl refl z in
    let m = leads s (i + 1 + size a) (i + 2 + size a) (size d + suc (size b + k)) (suc (size d + suc (size b + k))) else_rec _ h.0.middle (omega arith) refl D in
    let A = stood s a (i + 1) (i + 1 + size a) (suc (size d + suc (size b + k))) (size a + suc (size d + suc (size b + k))) _ h.1 refl refl m in
    leads s i (i + 1) (size a + suc (size d + suc (size b + k))) n (test_rec IF q 0) _ h.0.is refl (omega arith) A ∙ simp append_assoc
stood s (while q m a b) i j k n rs h e c t =
    loop_stood s i k n WHILE q m a b rs h.0 c (λ k n rs c t. stood s a (i + 1) (i + 1 + size a) k n rs h.1 refl c t)
    (stood s b (i + 2 + size a) j k (size b + k) rs h.2 (omega arith) refl t)
    ∙ simp append_assoc
stood s (times q m a b) i j k n rs h e c t =
    loop_stood s i k n TIMES q m a b rs h.0 c (λ k n rs c t. stood s a (i + 1) (i + 1 + size a) k n rs h.1 refl c t)
    (stood s b (i + 2 + size a) j k (size b + k) rs h.2 (omega arith) refl t)
    ∙ simp append_assoc

-- only one block of a size stands at an index
pub stands_once : (s : List ℕ) (i : ℕ) (a b : Block) → At s i a → At s i b → size a ≡ size b → a ≡ b
unfolding first_records
stands_once s i a b h k e =
    let left : records_at s i (size b) ≡ linearise a = stood s a i (i + size a) 0 (size b) [] h refl (omega arith) refl ∙ append-nil (linearise a) in
    let right : records_at s i (size b) ≡ linearise b = stood s b i (i + size b) 0 (size b) [] k refl (omega arith) refl ∙ append-nil (linearise b) in
    sym (tree_of_linearise a) ∙ ap tree_of (sym left ∙ right) ∙ tree_of_linearise b
