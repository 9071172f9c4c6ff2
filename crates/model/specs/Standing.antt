-- Where a block stands in the bytes of a file. Contracts inside the crates speak of it; no reply does, so nobody has to believe it.
use Rattle.std.specs.Prelude.{ℕ, ◌+◌, ◌≡◌, true, List}
use Rattle.model.specs.declared.Form.{Form}
use Rattle.model.specs.Records.{Rec, record_at, IF, WHILE, TIMES}
use Rattle.model.specs.Trees.{Test, Block, nil, skip, act, branch, while, times, size, test_rec, skip_rec, act_rec, else_rec, end_rec}
use Rattle.model.specs.Refusals.{kind_fits, fields_fit}

-- IF at i with m and n records in its sides
pub record BranchAt (s : List ℕ) (i : ℕ) (q : Test) (m n : ℕ) : Type 0 where
  pub is : record_at s i ≡ test_rec IF q 0
  pub middle : record_at s (i + 1 + m) ≡ else_rec
  pub last : record_at s (i + 2 + m + n) ≡ end_rec

-- a loop of kind k and count c at i with m records in its body
pub record LoopAt (s : List ℕ) (i k : ℕ) (q : Test) (c m : ℕ) : Type 0 where
  pub is : record_at s i ≡ test_rec k q c
  pub last : record_at s (i + 1 + m) ≡ end_rec

-- the records from i on are those of the block
abbrev pub At : List ℕ → ℕ → Block → Type 0
At s i nil = Unit {0}
At s i (skip n b) = (record_at s i ≡ skip_rec n) × At s (i + 1) b
At s i (act p b) = (record_at s i ≡ act_rec p) × At s (i + 1) b
At s i (branch q a d b) = BranchAt s i q (size a) (size d) × At s (i + 1) a × At s (i + 2 + size a) d × At s (i + 3 + size a + size d) b
At s i (while q n a b) = LoopAt s i WHILE q n (size a) × At s (i + 1) a × At s (i + 2 + size a) b
At s i (times q n a b) = LoopAt s i TIMES q n (size a) × At s (i + 1) a × At s (i + 2 + size a) b

-- a record of a form: its kind is one of the form's, and its fields are in range
pub record Fit (f : Form) (r : Rec) : Type 0 where
  pub kind : kind_fits f r.kind ≡ true
  pub fields : fields_fit r ≡ true

-- the tree's records are those of the form
abbrev pub OfForm : Form → Block → Type 0
OfForm f nil = Unit {0}
OfForm f (skip n b) = Fit f (skip_rec n) × OfForm f b
OfForm f (act p b) = Fit f (act_rec p) × OfForm f b
OfForm f (branch q a d b) = Fit f (test_rec IF q 0) × OfForm f a × OfForm f d × OfForm f b
OfForm f (while q n a b) = Fit f (test_rec WHILE q n) × OfForm f a × OfForm f b
OfForm f (times q n a b) = Fit f (test_rec TIMES q n) × OfForm f a × OfForm f b
