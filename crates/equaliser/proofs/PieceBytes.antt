-- The bytes of the pieces of a loop: of what comes before its body, and of what follows it.
use Prim.Native.Nat.{ℕ, ◌+◌, ◌≤◌}
use mathlib.Core.{Path.◌≡◌, Path.refl, List.List, List.◌++◌}
use lib.ListN.{length}
use Rattle.model.specs.Records.{Rec, IF, TIMES, record_bytes, over}
use Rattle.model.specs.Trees.{test_rec, else_rec, end_rec}
use Rattle.records.specs.Blocks.{skip_bytes, Wrote}
use Rattle.records.proofs.Over.{Part, lent, back, part_first, part_lent, part_last}
use Rattle.reading.specs.Ranges.{test_of}
use Rattle.equaliser.specs.Written.{loop_head, loop_tail}

-- TIMES and IF with the test of a WHILE
pub head_laid : (r : Rec) (old : List ℕ) {new ys : List ℕ} → 24 ≤ length old → new ≡ over (record_bytes (test_rec TIMES (test_of r) r.count)) old
    → ys ≡ over (record_bytes (test_rec IF (test_of r) 0)) (lent new 12) → back new 12 ys ≡ over (loop_head r) old
head_laid r old {new} h e f =
    let p : Part (loop_head r) (record_bytes (test_rec IF (test_of r) 0)) old new 12 = part_first (record_bytes (test_rec TIMES (test_of r) r.count)) h e refl in
    part_last p f

-- ELSE, a SKIP of t ticks and two ENDs: what is left to lay after each
module _ (t : ℕ) (old : List ℕ) (room : length (loop_tail t) ≤ length old) where
  pub else_laid : {new : List ℕ} → new ≡ over (record_bytes else_rec) old
      → Part (loop_tail t) (skip_bytes t ++ (record_bytes end_rec ++ record_bytes end_rec)) old new 12
  else_laid e = part_first (record_bytes else_rec) room e refl

  pub skip_laid : {new ys : List ℕ} {n : ℕ} → new ≡ over (record_bytes else_rec) old → Wrote (skip_bytes t) (lent new 12) ys n
      → Part (loop_tail t) (record_bytes end_rec ++ record_bytes end_rec) old (back new 12 ys) (12 + n)
  skip_laid e W = part_lent (skip_bytes t) (else_laid e) W.laid W.count
