-- The tree of a block's records is the block.
use native.Mathlib.Omega.{arith}
use mathlib.Core.Path.{◌≡◌, refl, ap}
use mathlib.Core.List.{List, [], ◌∷◌, ◌++◌, append_assoc, append-nil}
use lib.ListN.{length, length-append}
use Rattle.model.specs.Records.{Rec}
use Rattle.model.specs.Trees.{Act, set, read, write, check, beat, save, Block, nil, skip, act, branch, while, times, ◌⧺◌}
use Rattle.model.specs.Trees.{size, act_rec, else_rec, end_rec, linearise, push, top, under, stack_of, tree_of}

pub ⧺-nil : (b : Block) → b ⧺ nil ≡ b
⧺-nil nil = refl
⧺-nil (skip n b) = rw (⧺-nil b)
⧺-nil (act p b) = rw (⧺-nil b)
⧺-nil (branch q a d b) = rw (⧺-nil b)
⧺-nil (while q n a b) = rw (⧺-nil b)
⧺-nil (times q n a b) = rw (⧺-nil b)

pub ⧺-assoc : (a b c : Block) → (a ⧺ b) ⧺ c ≡ a ⧺ (b ⧺ c)
⧺-assoc nil b c = refl
⧺-assoc (skip n a) b c = rw (⧺-assoc a b c)
⧺-assoc (act p a) b c = rw (⧺-assoc a b c)
⧺-assoc (branch q x y a) b c = rw (⧺-assoc a b c)
⧺-assoc (while q n x a) b c = rw (⧺-assoc a b c)
⧺-assoc (times q n x a) b c = rw (⧺-assoc a b c)

pub length_linearise : (b : Block) → length (linearise b) ≡ size b
unfolding linearise
length_linearise nil = refl
length_linearise (skip n b) = omega (arith, length_linearise b)
length_linearise (act p b) = omega (arith, length_linearise b)
length_linearise (branch q a d b) =
    omega (
      arith,
      length-append (linearise a) (else_rec ∷ (linearise d ++ end_rec ∷ linearise b)),
      length-append (linearise d) (end_rec ∷ linearise b),
      length_linearise a,
      length_linearise d,
      length_linearise b,
    )
length_linearise (while q n a b) = omega (arith, length-append (linearise a) (end_rec ∷ linearise b), length_linearise a, length_linearise b)
length_linearise (times q n a b) = omega (arith, length-append (linearise a) (end_rec ∷ linearise b), length_linearise a, length_linearise b)

pub push_act : (p : Act) (bs : List Block) → push (act_rec p) bs ≡ act p (top bs) ∷ under bs
push_act (set o t l x) bs = refl
push_act (read a p) bs = refl
push_act (write a p) bs = refl
push_act (check q) bs = refl
push_act (beat x) bs = refl
push_act (save m) bs = refl

-- a block's records before others join the block to the stack's top
pub stack_of_linearise : (b : Block) (rs : List Rec) (c : Block) (st : List Block) → stack_of rs ≡ c ∷ st → stack_of (linearise b ++ rs) ≡ (b ⧺ c) ∷ st
unfolding linearise stack_of
stack_of_linearise nil rs c st e = e
stack_of_linearise (skip n b) rs c st e = rw (stack_of_linearise b rs c st e)
stack_of_linearise (act p b) rs c st e = rw (push_act, stack_of_linearise b rs c st e)
stack_of_linearise (branch q a d b) rs c st e =
    let f = stack_of_linearise d (end_rec ∷ (linearise b ++ rs)) nil ((b ⧺ c) ∷ st) (rw (stack_of_linearise b rs c st e)) in
    let g = stack_of_linearise a (else_rec ∷ (linearise d ++ end_rec ∷ (linearise b ++ rs))) nil ((d ⧺ nil) ∷ (b ⧺ c) ∷ st) (rw f) in
    simp (append_assoc, g, ⧺-nil)
stack_of_linearise (while q n a b) rs c st e =
    simp (append_assoc, stack_of_linearise a (end_rec ∷ (linearise b ++ rs)) nil ((b ⧺ c) ∷ st) (rw (stack_of_linearise b rs c st e)), ⧺-nil)
stack_of_linearise (times q n a b) rs c st e =
    simp (append_assoc, stack_of_linearise a (end_rec ∷ (linearise b ++ rs)) nil ((b ⧺ c) ∷ st) (rw (stack_of_linearise b rs c st e)), ⧺-nil)

pub tree_of_linearise : (b : Block) → tree_of (linearise b) ≡ b
unfolding tree_of stack_of
tree_of_linearise b = ap top (simp (append-nil, ⧺-nil) at (stack_of_linearise b [] nil [] refl))
