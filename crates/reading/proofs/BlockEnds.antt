-- The scan for the end of a block passes through every block inside it, and stops at the ELSE or END that stands right after it.
use Prim.Native.Nat.{ℕ, suc, ◌+◌, ◌-◌, ◌<◌}
use native.Mathlib.Omega.{arith}
use mathlib.Core.Path.{◌≡◌, refl, ap, ◌∙◌}
use mathlib.Core.{Bool.true, Logic.⊎_elim, List.List}
use lib.Dec.{eqb}
use borrow.Author.Tests.{eqb-true, ne_eqb}
use Rattle.model.specs.Records.{Rec, kind_at, record_at, ELSE, WHILE, END, TIMES}
use Rattle.model.specs.Trees.{Test, Act, Block, nil, skip, act, branch, while, times, size, act_rec}
use Rattle.model.specs.Standing.{At, LoopAt}
use Rattle.laws.proofs.{Shapes.by_act, Shapes.or_cases}
use Rattle.reading.specs.Closing.{Pass, Ends, On, closes_block, pass_to, go_on, closing_in}

-- what a record at i makes of the count is a matter of its kind
pub passes : (s : List ℕ) (i n : ℕ) {r : Rec} → record_at s i ≡ r → pass_to (kind_at s i) n ≡ pass_to r.kind n
passes s i n e = ap (λ (r : Rec). pass_to r.kind n) e

pass_act : (p : Act) (n : ℕ) → pass_to (act_rec p).kind n ≡ On n
pass_act p n = by_act (λ k. pass_to k n ≡ On n) refl refl refl refl refl refl p

pass_else : (n : ℕ) → pass_to ELSE (n + 1) ≡ On (n + 1)
pass_else n = simp (ne_eqb (n + 1) 0 (λ e. omega arith))

pass_end : (n : ℕ) → pass_to END (n + 1) ≡ On n
pass_end n = simp (ne_eqb (n + 1) 0 (λ e. omega arith)) (ap On (omega arith))

-- ELSE and END end the block that the count started in
pub ends_block : (k : ℕ) → closes_block k ≡ true → pass_to k 0 ≡ Ends
ends_block k h = ⊎_elim (λ e. rw (eqb-true k ELSE e)) (λ e. rw (eqb-true k END e)) (or_cases (eqb k ELSE) (eqb k END) h)

-- one record of the scan
pub step : (s : List ℕ) (m l i n : ℕ) {p : Pass} → m ≡ suc l → pass_to (kind_at s i) n ≡ p → closing_in s m i n ≡ go_on p i (λ k. closing_in s l (i + 1) k)
unfolding closing_in
step s m l i n e h = rw (e, h)

pub stop : (s : List ℕ) (m i n : ℕ) → m ≡ 0 → closing_in s m i n ≡ i
unfolding closing_in
stop s m i n e = rw e

same : (s : List ℕ) (m i j n : ℕ) → i ≡ j → closing_in s m i n ≡ closing_in s m j n
same s m i j n e = ap (λ (k : ℕ). closing_in s m k n) e

-- the scan of m records from i on comes out after b, with l records left and the same count
abbrev Through : List ℕ → Block → Type 0
Through s b = (m l i n : ℕ) → At s i b → m ≡ size b + l → closing_in s m i n ≡ closing_in s l (i + size b) n

through_loop : (s : List ℕ) (k : ℕ) (a b : Block) → ((n : ℕ) → pass_to k n ≡ On (n + 1)) → Through s a → Through s b
    → (m l i n : ℕ) (q : Test) (c : ℕ) → LoopAt s i k q c (size a) → At s (i + 1) a → At s (i + 2 + size a) b → m ≡ 2 + size a + size b + l
    → closing_in s m i n ≡ closing_in s l (i + (2 + size a + size b)) n
through_loop s k a b opens go next m l i n q c L A B e =
    let z = size b + l in
    step s m (size a + suc z) i n (omega arith) (passes s i n L.is ∙ opens n)
    ∙ go (size a + suc z) (suc z) (i + 1) (n + 1) A refl
    ∙ step s (suc z) z (i + 1 + size a) (n + 1) refl (passes s (i + 1 + size a) (n + 1) L.last ∙ pass_end n)
    ∙ same s z (i + 1 + size a + 1) (i + 2 + size a) n (omega arith)
    ∙ next z l (i + 2 + size a) n B refl
    ∙ same s l (i + 2 + size a + size b) (i + (2 + size a + size b)) n (omega arith)

-- one record that opens and closes no block, and then b
through_one : (s : List ℕ) (b : Block) → Through s b → (m l i n : ℕ) → pass_to (kind_at s i) n ≡ On n → At s (i + 1) b → m ≡ 1 + size b + l
    → closing_in s m i n ≡ closing_in s l (i + (1 + size b)) n
through_one s b next m l i n p B e =
    step s m (size b + l) i n (omega arith) p
    ∙ next (size b + l) l (i + 1) n B refl
    ∙ same s l (i + 1 + size b) (i + (1 + size b)) n (omega arith)

through : (s : List ℕ) (b : Block) → Through s b
through s nil m l i n at e = ap (λ (k : ℕ). closing_in s k i n) (omega arith) ∙ same s l i (i + 0) n (omega arith)
through s (skip c b) m l i n at e = through_one s b (λ m l i n. through s b m l i n) m l i n (passes s i n at.0) at.1 e
through s (act p b) m l i n at e = through_one s b (λ m l i n. through s b m l i n) m l i n (passes s i n at.0 ∙ pass_act p n) at.1 e
through s (branch q a d b) m l i n at e =
    let z = size b + l in
    let y = size d + suc z in
    step s m (size a + suc y) i n (omega arith) (passes s i n at.0.is)
    ∙ through s a (size a + suc y) (suc y) (i + 1) (n + 1) at.1 refl
    ∙ step s (suc y) y (i + 1 + size a) (n + 1) refl (passes s (i + 1 + size a) (n + 1) at.0.middle ∙ pass_else n)
    ∙ same s y (i + 1 + size a + 1) (i + 2 + size a) (n + 1) (omega arith)
    ∙ through s d y (suc z) (i + 2 + size a) (n + 1) at.2 refl
    ∙ step s (suc z) z (i + 2 + size a + size d) (n + 1) refl (passes s (i + 2 + size a + size d) (n + 1) at.0.last ∙ pass_end n)
    ∙ same s z (i + 2 + size a + size d + 1) (i + 3 + size a + size d) n (omega arith)
    ∙ through s b z l (i + 3 + size a + size d) n at.3 refl
    ∙ same s l (i + 3 + size a + size d + size b) (i + (3 + size a + size d + size b)) n (omega arith)
through s (while q c a b) m l i n at e =
    through_loop s WHILE a b (λ n. refl) (λ m l i n. through s a m l i n) (λ m l i n. through s b m l i n) m l i n q c at.0 at.1 at.2 e
through s (times q c a b) m l i n at e =
    through_loop s TIMES a b (λ n. refl) (λ m l i n. through s a m l i n) (λ m l i n. through s b m l i n) m l i n q c at.0 at.1 at.2 e

-- the record after a block that closes what the block stands in is what the scan finds
pub found : (s : List ℕ) (b : Block) (m i : ℕ) → At s i b → size b < m → pass_to (kind_at s (i + size b)) 0 ≡ Ends → closing_in s m i 0 ≡ i + size b
found s b m i at l h =
    through s b m (suc (m - size b - 1)) i 0 at (omega arith)
    ∙ step s (suc (m - size b - 1)) (m - size b - 1) (i + size b) 0 refl h

-- and so is the end of the records, with which the block ends
pub ran_out : (s : List ℕ) (b : Block) (m i : ℕ) → At s i b → size b ≡ m → closing_in s m i 0 ≡ i + size b
ran_out s b m i at e = through s b m 0 i 0 at (omega arith) ∙ stop s 0 (i + size b) 0 refl
