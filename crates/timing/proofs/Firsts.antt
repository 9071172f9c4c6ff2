-- The first statement of a block: its time, by the kind of its record, and those of the blocks inside it.
use Prim.Native.Nat.{ℕ, ◌+◌, ◌≤◌}
use native.Mathlib.{Nat.mul-le-mul_right, Omega.arith}
use mathlib.Core.Path.{◌≡◌, refl, ap, sym, ◌∙◌}
use mathlib.Core.{Bool.false, Bool.◌&&◌, Bool.false≢true, Logic.◌⊎◌, Logic.inl, Logic.inr, List.List}
use Rattle.model.specs.declared.{Form.Form, Settings.Settings}
use Rattle.model.specs.Records.{kind_at, record_at, WHILE, TIMES}
use Rattle.model.specs.Trees.{Test, Act, set, read, write, check, beat, save, Block, nil, skip, act, branch, while, times, act_rec, test_rec}
use Rattle.model.specs.{Times.ticks, Times.time, Standing.Fit, Standing.OfForm}
use Rattle.model.specs.Refusals.{test_fits, between, fields_fit}
use Rattle.laws.proofs.Shapes.{and_right, within}
use Rattle.records.specs.declared.Record.{Record}
use Rattle.records.specs.Records.{record_of}
use Rattle.reading.specs.{Closing.opens_block, Walks.StatementAt}
use Rattle.reading.specs.Ranges.{Stands, first_size, first_part, second_part, after_first}
use Rattle.reading.proofs.{FirstKinds.kind_is, Walking.some, Walking.kind_there}
use Rattle.timing.specs.{Times.step_ticks, Blocks.first_time}

-- a block's time is that of its first statement and of what follows it
pub time_first : (σ : Settings) (b : Block) → time σ b ≡ first_time σ b + time σ (after_first b)
time_first σ nil = refl
time_first σ (skip n b) = refl
time_first σ (act p b) = refl
time_first σ (branch q a d b) = refl
time_first σ (while q n a b) = refl
time_first σ (times q n a b) = refl

pub act_ticks : (σ : Settings) (p : Act) → step_ticks σ (act_rec p) ≡ ticks σ p
act_ticks σ (set o t l x) = refl
act_ticks σ (read a p) = refl
act_ticks σ (write a p) = refl
act_ticks σ (check q) = refl
act_ticks σ (beat x) = refl
act_ticks σ (save m) = refl

-- the count of a loop is at least 1
pub loop_count : (f : Form) (k : ℕ) (q : Test) (n : ℕ) → (k ≡ WHILE) ⊎ (k ≡ TIMES) → Fit f (test_rec k q n) → 1 ≤ n
unfolding fields_fit
loop_count f k q n h F = (within 1 65535 n (and_right (test_fits (test_rec k q n)) (between 1 65535 n) (sym (fields h) ∙ F.fields))).0
  where
    fields : (k ≡ WHILE) ⊎ (k ≡ TIMES) → fields_fit (test_rec k q n) ≡ (test_fits (test_rec k q n) && between 1 65535 n)
    fields (inl e) = rw e
    fields (inr e) = rw e

-- the blocks inside a statement take no longer than it
pub parts_time : (σ : Settings) (f : Form) (b : Block) → OfForm f b → (time σ (first_part b) ≤ first_time σ b) × (time σ (second_part b) ≤ first_time σ b)
parts_time σ f nil o = (omega arith, omega arith)
parts_time σ f (skip n b) o = (omega arith, omega arith)
parts_time σ f (act p b) o = (omega arith, omega arith)
parts_time σ f (branch q a d b) o = (omega arith, omega arith)
parts_time σ f (while q n a b) o = (omega (arith, mul-le-mul_right (time σ a + 1) (loop_count f WHILE q n (inl refl) o.0)), omega arith)
parts_time σ f (times q n a b) o = (omega (arith, mul-le-mul_right (time σ a) (loop_count f TIMES q n (inr refl) o.0)), omega arith)

-- a statement whose record opens no block
plain_first : {f : Form} {s : List ℕ} {i to : ℕ} (σ : Settings) (b : Block) → Stands f s i to b → 1 ≤ first_size b → opens_block (kind_at s i) ≡ false
    → (step_ticks σ (record_at s i) ≡ first_time σ b) × (first_size b ≡ 1)
plain_first σ nil B l o = absurd (omega arith)
plain_first σ (skip n b) B l o = (ap (step_ticks σ) B.fills.stands.0, refl)
plain_first σ (act p b) B l o = (ap (step_ticks σ) B.fills.stands.0 ∙ act_ticks σ p, refl)
plain_first {s = s} {i} σ (branch q a d b) B l o = absurd (false≢true (sym o ∙ ap opens_block (kind_is s i B.fills.stands.0.is)))
plain_first {s = s} {i} σ (while q n a b) B l o = absurd (false≢true (sym o ∙ ap opens_block (kind_is s i B.fills.stands.0.is)))
plain_first {s = s} {i} σ (times q n a b) B l o = absurd (false≢true (sym o ∙ ap opens_block (kind_is s i B.fills.stands.0.is)))

pub plain_at : {f : Form} {s : List ℕ} {i to : ℕ} (A : StatementAt f s i to) (σ : Settings) {r : Record} → record_of r ≡ record_at s i → opens_block r.kind ≡ false
    → (step_ticks σ (record_of r) ≡ first_time σ A.file.block) × (first_size A.file.block ≡ 1)
plain_at A σ e o =
    let p = plain_first σ A.file.block A.file.stands (some A) (ap opens_block (kind_there A e refl) ∙ o) in
    (ap (step_ticks σ) e ∙ p.0, p.1)
