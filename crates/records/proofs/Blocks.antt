-- Blocks one after the other, and after waiting ticks of SKIP: how many records they have, and which bytes.
use Rattle.std.proofs.Common.{◌≡◌, ℕ, zero, suc, ◌+◌, ◌*◌, ◌<◌, ◌≤◌, Bool, true, ◌||◌, List, [], ◌∷◌, ◌++◌, sym, refl, ap, ◌∙◌, append_assoc, append-nil, arith, lt-ltb}
use mathlib.Core.Bool.{or-true}
use lib.{Dec.ltb, ListN.length}
use Rattle.model.specs.Records.{Rec, record_bytes, bytes, IF}
use Rattle.model.specs.Trees.{Test, Act, Block, nil, skip, act, branch, while, times, ◌⧺◌, test_rec, act_rec, else_rec, end_rec, size, linearise}
use Rattle.model.specs.{Limits.file_records, Equalising.waiting, Replies.no_room}
use Rattle.laws.proofs.Passes.{length_file}
use Rattle.records.specs.Blocks.{block_bytes, skip_records, skip_bytes}

pub waiting-⧺ : (n : ℕ) (a b : Block) → waiting n a ⧺ b ≡ waiting n (a ⧺ b)
waiting-⧺ zero a b = refl
waiting-⧺ (suc n) a b = refl

-- SIZES

-- a result of more records than a file can have finds no room anywhere
pub above_all : (room n : ℕ) → file_records < n → no_room room n ≡ true
above_all room n h = ap (λ (x : Bool). ltb room (12 * n) || x) (lt-ltb file_records n h) ∙ or-true (ltb room (12 * n))

pub size-⧺ : (a b : Block) → size (a ⧺ b) ≡ size a + size b
size-⧺ nil b = omega arith
size-⧺ (skip n a) b = omega (arith, size-⧺ a b)
size-⧺ (act p a) b = omega (arith, size-⧺ a b)
size-⧺ (branch q x y a) b = omega (arith, size-⧺ a b)
size-⧺ (while q n x a) b = omega (arith, size-⧺ a b)
size-⧺ (times q n x a) b = omega (arith, size-⧺ a b)

pub size_waiting : (n : ℕ) (b : Block) → size (waiting n b) ≡ skip_records n + size b
size_waiting zero b = omega arith
size_waiting (suc n) b = omega arith

pub one_skip : (n : ℕ) → skip_records n ≤ 1
one_skip zero = omega arith
one_skip (suc n) = omega arith

pub some_skip : (n : ℕ) → (n ≡ 0 → ⊥) → 1 ≡ skip_records n
some_skip zero h = absurd (h refl)
some_skip (suc n) h = refl

-- BYTES

pub bytes-++ : (rs ts : List Rec) → bytes (rs ++ ts) ≡ bytes rs ++ bytes ts
unfolding bytes
bytes-++ [] ts = refl
bytes-++ (r ∷ rs) ts = rw (bytes-++ rs ts) (sym (append_assoc (record_bytes r) (bytes rs) (bytes ts)))

pub linearise-⧺ : (a b : Block) → linearise (a ⧺ b) ≡ linearise a ++ linearise b
unfolding linearise
linearise-⧺ nil b = refl
linearise-⧺ (skip n a) b = rw (linearise-⧺ a b)
linearise-⧺ (act p a) b = rw (linearise-⧺ a b)
linearise-⧺ (branch q x y a) b = rw (linearise-⧺ a b) (simp append_assoc)
linearise-⧺ (while q n x a) b = rw (linearise-⧺ a b) (simp append_assoc)
linearise-⧺ (times q n x a) b = rw (linearise-⧺ a b) (simp append_assoc)

pub bytes-⧺ : (a b : Block) → block_bytes (a ⧺ b) ≡ block_bytes a ++ block_bytes b
unfolding block_bytes
bytes-⧺ a b = rw (linearise-⧺ a b) (bytes-++ (linearise a) (linearise b))

pub length_block : (b : Block) → length (block_bytes b) ≡ 12 * size b
unfolding block_bytes
length_block b = length_file b

pub waiting_bytes : (n : ℕ) (b : Block) → block_bytes (waiting n b) ≡ skip_bytes n ++ block_bytes b
unfolding block_bytes linearise bytes
waiting_bytes zero b = refl
waiting_bytes (suc n) b = refl

pub act_bytes : (p : Act) → block_bytes (act p nil) ≡ record_bytes (act_rec p)
unfolding block_bytes linearise bytes
act_bytes p = append-nil (record_bytes (act_rec p))

pub branch_bytes_is : (q : Test) (a d : Block)
    → block_bytes (branch q a d nil) ≡ record_bytes (test_rec IF q 0) ++ (block_bytes a ++ (record_bytes else_rec ++ (block_bytes d ++ record_bytes end_rec)))
unfolding block_bytes linearise bytes
branch_bytes_is q a d = simp (bytes-++, append-nil)
