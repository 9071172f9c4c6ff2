-- The converse of `sound_file`: a block of the form, not too deep and not too long, passes the scan as a file and is read back from it.
use Prim.Native.Nat.{ℕ, ◌+◌, ◌*◌, ◌%◌, ◌≤◌}
use native.Mathlib.Omega.{arith}
use mathlib.Core.Path.{◌≡◌, refl, ap, ◌∙◌}
use mathlib.Core.List.{List, [], ◌∷◌, ◌++◌, append_assoc, append-nil}
use lib.ListN.{length}
use borrow.Author.Tests.{le-ltb, eq-eqb}
use Rattle.model.specs.declared.Form.{Form}
use Rattle.model.specs.declared.Form.TheVariants.{Task, Equalised, Laid}
use Rattle.model.specs.Records.{Rec, IF, WHILE, TIMES, bytes}
use Rattle.model.specs.Trees.{Block, nil, skip, act, branch, while, times, size, depth, test_rec, skip_rec, act_rec, else_rec, end_rec, linearise, file_tree}
use Rattle.model.specs.Refusals.{max_records, max_depth, fields_fit, Open, first, second, loop, inside, nest, sound, scan, fault}
use Rattle.model.specs.Standing.{Fit, OfForm}
use Rattle.laws.proofs.{Bytes.length_bytes, Bytes.records_bytes, Trees.length_linearise, Trees.tree_of_linearise}
use Rattle.laws.proofs.{Sound.nest_act}

else_fits : (f : Form) → Fit f else_rec
unfolding fields_fit
else_fits Task = record { kind = refl; fields = refl }
else_fits Equalised = record { kind = refl; fields = refl }
else_fits Laid = record { kind = refl; fields = refl }

end_fits : (f : Form) → Fit f end_rec
unfolding fields_fit
end_fits Task = record { kind = refl; fields = refl }
end_fits Equalised = record { kind = refl; fields = refl }
end_fits Laid = record { kind = refl; fields = refl }

module _ (f : Form) where
  -- the scan goes past a record that may stand there
  past : (i : ℕ) (os next : List Open) (r : Rec) (rs : List Rec) → Fit f r → nest r.kind os ≡ inside next → length next ≤ max_depth f
      → scan f i os (r ∷ rs) ≡ scan f (i + 1) next rs
  unfolding scan
  past i os next r rs fit n l = rw (fit.kind, fit.fields, n, le-ltb (max_depth f) (length next) l)

  -- past a loop that opens with r, given that it goes past the body and what follows
  past_loop : (r : Rec) (a b : Block) (i j : ℕ) (os : List Open) (rs : List Rec) → Fit f r → nest r.kind os ≡ inside (loop ∷ os) → 1 + length os ≤ max_depth f
      → scan f (i + 1) (loop ∷ os) (linearise a ++ end_rec ∷ (linearise b ++ rs)) ≡ scan f (i + 1 + size a) (loop ∷ os) (end_rec ∷ (linearise b ++ rs))
      → scan f (i + 2 + size a) os (linearise b ++ rs) ≡ scan f j os rs
      → scan f i os ((r ∷ (linearise a ++ end_rec ∷ linearise b)) ++ rs) ≡ scan f j os rs
  past_loop r a b i j os rs fit n l body next =
      let ends = end_rec ∷ (linearise b ++ rs) in
      let e : i + 1 + size a + 1 ≡ i + 2 + size a = omega arith in
      simp append_assoc
      (past i os (loop ∷ os) r (linearise a ++ ends) fit n (omega arith)
      ∙ body
      ∙ past (i + 1 + size a) (loop ∷ os) os end_rec (linearise b ++ rs) (end_fits f) refl (omega arith)
      ∙ ap (λ (k : ℕ). scan f k os (linearise b ++ rs)) e
      ∙ next)

  -- and past a block, up to the record with index j
  past_block : (b : Block) (i j : ℕ) (os : List Open) (rs : List Rec) → OfForm f b → depth b + length os ≤ max_depth f → i + size b ≡ j
      → scan f i os (linearise b ++ rs) ≡ scan f j os rs
  unfolding linearise
  past_block nil i j os rs p l e = ap (λ (k : ℕ). scan f k os rs) (omega arith)
  past_block (skip n b) i j os rs p l e =
      past i os os (skip_rec n) (linearise b ++ rs) p.0 refl (omega arith) ∙ past_block b (i + 1) j os rs p.1 l (omega arith)
  past_block (act a b) i j os rs p l e =
      past i os os (act_rec a) (linearise b ++ rs) p.0 (nest_act a os) (omega arith) ∙ past_block b (i + 1) j os rs p.1 l (omega arith)
  past_block (branch q a d b) i j os rs p l e =
      let m = i + 1 + size a in
      let n = m + 1 + size d in
      let ends = end_rec ∷ (linearise b ++ rs) in
      let others = else_rec ∷ (linearise d ++ ends) in
      simp append_assoc
      (past i os (first ∷ os) (test_rec IF q 0) (linearise a ++ others) p.0 refl (omega arith)
      ∙ past_block a (i + 1) m (first ∷ os) others p.1 (omega arith) refl
      ∙ past m (first ∷ os) (second ∷ os) else_rec (linearise d ++ ends) (else_fits f) refl (omega arith)
      ∙ past_block d (m + 1) n (second ∷ os) ends p.2 (omega arith) refl
      ∙ past n (second ∷ os) os end_rec (linearise b ++ rs) (end_fits f) refl (omega arith)
      ∙ past_block b (n + 1) j os rs p.3 (omega arith) (omega arith))
  past_block (while q n a b) i j os rs p l e =
      past_loop (test_rec WHILE q n) a b i j os rs p.0 refl (omega arith)
      (past_block a (i + 1) (i + 1 + size a) (loop ∷ os) (end_rec ∷ (linearise b ++ rs)) p.1 (omega arith) refl)
      (past_block b (i + 2 + size a) j os rs p.2 (omega arith) (omega arith))
  past_block (times q n a b) i j os rs p l e =
      past_loop (test_rec TIMES q n) a b i j os rs p.0 refl (omega arith)
      (past_block a (i + 1) (i + 1 + size a) (loop ∷ os) (end_rec ∷ (linearise b ++ rs)) p.1 (omega arith) refl)
      (past_block b (i + 2 + size a) j os rs p.2 (omega arith) (omega arith))

pub length_file : (b : Block) → length (bytes (linearise b)) ≡ 12 * size b
length_file b = rw (length_bytes (linearise b), length_linearise b)

pub tree_back : (b : Block) → file_tree (bytes (linearise b)) ≡ b
unfolding file_tree
tree_back b = rw (records_bytes (linearise b)) (tree_of_linearise b)

pub passes : (f : Form) (b : Block) → OfForm f b → depth b ≤ max_depth f → size b ≤ max_records f → fault f (bytes (linearise b)) ≡ sound
unfolding fault scan
passes f b p d s =
    let l = length_file b in
    rw (eq-eqb (length (bytes (linearise b)) % 12) 0 (omega arith), le-ltb (12 * max_records f) (length (bytes (linearise b))) (omega arith))
    (rw (records_bytes (linearise b), ← append-nil (linearise b)) (past_block f b 0 (size b) [] [] p (omega arith) (omega arith)))
