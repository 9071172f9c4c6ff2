-- The first statement of a block that fills a range, by the kind of its record.
use Prim.Native.Nat.{ℕ, ◌<◌}
use native.Mathlib.Omega.{arith}
use mathlib.Core.Path.{◌≡◌, refl, ap, sym, ◌∙◌}
use mathlib.Core.{Bool.true, Bool.false, List.List}
use Rattle.model.specs.declared.Form.{Form}
use Rattle.model.specs.declared.Form.TheVariants.{Task}
use Rattle.model.specs.Records.{Rec, kind_at, record_at, SKIP, IF, WHILE, TIMES}
use Rattle.model.specs.Trees.{Act, Block, nil, skip, act, branch, while, times, act_rec}
use Rattle.laws.proofs.Shapes.{by_act}
use Rattle.reading.specs.Closing.{opens_block}
use Rattle.reading.specs.Ranges.{Fills, first_part, second_part, after_first, test_of}

-- the kind of a record at an index
pub kind_is : (s : List ℕ) (i : ℕ) {r : Rec} → record_at s i ≡ r → kind_at s i ≡ r.kind
kind_is s i e = ap (λ (r : Rec). r.kind) e

pub act_opens : (p : Act) → opens_block (act_rec p).kind ≡ false
act_opens p = by_act (λ k. opens_block k ≡ false) refl refl refl refl refl refl p

-- a record that opens no block is none that opens one
pub shut : (s : List ℕ) (i : ℕ) {r : Rec} → record_at s i ≡ r → opens_block r.kind ≡ false → opens_block (kind_at s i) ≡ true → ⊥
shut s i e h o =
    let same = ap opens_block (kind_is s i e) in
    let z : ◌≡◌ {A = ℕ} 0 1 = cc in
    omega arith

-- a record that opens no block and is no SKIP
pub record IsAct (r : Rec) (b : Block) : Type 0 where
  pub act_of : Act
  pub same : r ≡ act_rec act_of
  pub is : b ≡ act act_of (after_first b)

not_skip : (p : Act) → (act_rec p).kind ≡ SKIP → ⊥
not_skip p = by_act (λ k. k ≡ SKIP → ⊥) (λ e. omega arith) (λ e. omega arith) (λ e. omega arith) (λ e. omega arith) (λ e. omega arith) (λ e. omega arith) p

module _ {s : List ℕ} {i to d : ℕ} (l : i < to) where
  pub skip_is : {f : Form} (b : Block) → Fills f s i to d b → kind_at s i ≡ SKIP → b ≡ skip (record_at s i).count (after_first b)
  skip_is nil F k = absurd (omega (arith, F.ends))
  skip_is (skip n b) F k = ap (λ (r : Rec). skip r.count b) (sym F.stands.0)
  skip_is (act p b) F k = absurd (not_skip p (sym (kind_is s i F.stands.0) ∙ k))
  skip_is (branch q a e b) F k = absurd (omega (arith, k, kind_is s i F.stands.0.is))
  skip_is (while q n a b) F k = absurd (omega (arith, k, kind_is s i F.stands.0.is))
  skip_is (times q n a b) F k = absurd (omega (arith, k, kind_is s i F.stands.0.is))

  pub act_is : {f : Form} (b : Block) → Fills f s i to d b → opens_block (kind_at s i) ≡ false → (kind_at s i ≡ SKIP → ⊥) → IsAct (record_at s i) b
  act_is nil F o k = absurd (omega (arith, F.ends))
  act_is (skip n b) F o k = absurd (k (kind_is s i F.stands.0))
  act_is (act p b) F o k = record { act_of = p; same = F.stands.0; is = refl }
  act_is (branch q a e b) F o k = let z : ◌≡◌ {A = ℕ} 0 1 = cc (ap opens_block (kind_is s i F.stands.0.is)) in absurd (omega arith)
  act_is (while q n a b) F o k = let z : ◌≡◌ {A = ℕ} 0 1 = cc (ap opens_block (kind_is s i F.stands.0.is)) in absurd (omega arith)
  act_is (times q n a b) F o k = let z : ◌≡◌ {A = ℕ} 0 1 = cc (ap opens_block (kind_is s i F.stands.0.is)) in absurd (omega arith)

  pub if_is : {f : Form} (b : Block) → Fills f s i to d b → kind_at s i ≡ IF → b ≡ branch (test_of (record_at s i)) (first_part b) (second_part b) (after_first b)
  if_is nil F k = absurd (omega (arith, F.ends))
  if_is (skip n b) F k = absurd (omega (arith, k, kind_is s i F.stands.0))
  if_is (act p b) F k = absurd (shut s i F.stands.0 (act_opens p) (ap opens_block k))
  if_is (branch q a e b) F k = ap (λ (r : Rec). branch (test_of r) a e b) (sym F.stands.0.is)
  if_is (while q n a b) F k = absurd (omega (arith, k, kind_is s i F.stands.0.is))
  if_is (times q n a b) F k = absurd (omega (arith, k, kind_is s i F.stands.0.is))

  pub times_is : {f : Form} (b : Block) → Fills f s i to d b → kind_at s i ≡ TIMES → b ≡ times (test_of (record_at s i)) (record_at s i).count (first_part b) (after_first b)
  times_is nil F k = absurd (omega (arith, F.ends))
  times_is (skip n b) F k = absurd (omega (arith, k, kind_is s i F.stands.0))
  times_is (act p b) F k = absurd (shut s i F.stands.0 (act_opens p) (ap opens_block k))
  times_is (branch q a e b) F k = absurd (omega (arith, k, kind_is s i F.stands.0.is))
  times_is (while q n a b) F k = absurd (omega (arith, k, kind_is s i F.stands.0.is))
  times_is (times q n a b) F k = ap (λ (r : Rec). times (test_of r) r.count a b) (sym F.stands.0.is)

  pub while_is : {f : Form} (b : Block) → Fills f s i to d b → kind_at s i ≡ WHILE → b ≡ while (test_of (record_at s i)) (record_at s i).count (first_part b) (after_first b)
  while_is nil F k = absurd (omega (arith, F.ends))
  while_is (skip n b) F k = absurd (omega (arith, k, kind_is s i F.stands.0))
  while_is (act p b) F k = absurd (shut s i F.stands.0 (act_opens p) (ap opens_block k))
  while_is (branch q a e b) F k = absurd (omega (arith, k, kind_is s i F.stands.0.is))
  while_is (while q n a b) F k = ap (λ (r : Rec). while (test_of r) r.count a b) (sym F.stands.0.is)
  while_is (times q n a b) F k = absurd (omega (arith, k, kind_is s i F.stands.0.is))

  -- a task has no other loop
  pub task_loop : (b : Block) → Fills Task s i to d b → opens_block (kind_at s i) ≡ true → (kind_at s i ≡ IF → ⊥) → kind_at s i ≡ WHILE
  task_loop nil F o k = absurd (omega (arith, F.ends))
  task_loop (skip n b) F o k = absurd (shut s i F.stands.0 refl o)
  task_loop (act p b) F o k = absurd (shut s i F.stands.0 (act_opens p) o)
  task_loop (branch q a e b) F o k = absurd (k (kind_is s i F.stands.0.is))
  task_loop (while q n a b) F o k = kind_is s i F.stands.0.is
  task_loop (times q n a b) F o k = let z : ◌≡◌ {A = ℕ} 0 1 = cc F.of_form.0.kind in absurd (omega arith)
