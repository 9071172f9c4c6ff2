-- A fact about each act of a block: how it comes to hold of blocks made of others.
use Prim.Native.Nat.{ℕ, zero, suc, ◌+◌}
use mathlib.Core.Bool.{Bool, true, false, cond}
use Rattle.model.specs.Trees.{Test, Act, check, Block, nil, skip, act, branch, while, times, ◌⧺◌}
use Rattle.model.specs.{Equalising.waiting, Equalising.merge, Layout.copies, Layout.unroll, Placement.Each}

pub each_cond : (P : Act → Type 0) (o : Bool) (a b : Block) → Each P a → Each P b → Each P (cond o a b)
each_cond P true a b x y = x
each_cond P false a b x y = y

pub each-⧺ : (P : Act → Type 0) (a b : Block) → Each P a → Each P b → Each P (a ⧺ b)
each-⧺ P nil b x y = y
each-⧺ P (skip n a) b x y = each-⧺ P a b x y
each-⧺ P (act p a) b x y = (x.0, each-⧺ P a b x.1 y)
each-⧺ P (branch q c d a) b x y = (x.0, x.1, each-⧺ P a b x.2 y)
each-⧺ P (while q n c a) b x y = (x.0, each-⧺ P a b x.1 y)
each-⧺ P (times q n c a) b x y = (x.0, each-⧺ P a b x.1 y)

pub each_copies : (P : Act → Type 0) (n : ℕ) (b : Block) → Each P b → Each P (copies n b)
each_copies P zero b x = tt
each_copies P (suc n) b x = each-⧺ P b (copies n b) x (each_copies P n b x)

pub each_unroll : (P : Act → Type 0) → ((q : Test) → P (check q)) → (b : Block) → Each P b → Each P (unroll b)
each_unroll P c nil x = tt
each_unroll P c (skip n b) x = each_unroll P c b x
each_unroll P c (act p b) x = (x.0, each_unroll P c b x.1)
each_unroll P c (branch q a d b) x = (each_unroll P c a x.0, each_unroll P c d x.1, each_unroll P c b x.2)
each_unroll P c (while q n a b) x = (each_unroll P c a x.0, each_unroll P c b x.1)
each_unroll P c (times q n a b) x =
    each-⧺ P (copies n (unroll a)) (act (check q) (unroll b)) (each_copies P n (unroll a) (each_unroll P c a x.0)) (c q, each_unroll P c b x.1)

each_waiting : (P : Act → Type 0) (n : ℕ) (b : Block) → Each P b → Each P (waiting n b)
each_waiting P zero b p = p
each_waiting P (suc n) b p = p

pub each_merge : (P : Act → Type 0) (b : Block) (n : ℕ) → Each P b → Each P (merge n b)
each_merge P nil n p = each_waiting P n nil tt
each_merge P (skip m b) n p = each_merge P b (n + m) p
each_merge P (act r b) n p = each_waiting P n (act r (merge 0 b)) (p.0, each_merge P b 0 p.1)
each_merge P (branch q a d b) n p =
    each_waiting P n (branch q (merge 0 a) (merge 0 d) (merge 0 b)) (each_merge P a 0 p.0, each_merge P d 0 p.1, each_merge P b 0 p.2)
each_merge P (while q m a b) n p = each_waiting P n (while q m (merge 0 a) (merge 0 b)) (each_merge P a 0 p.0, each_merge P b 0 p.1)
each_merge P (times q m a b) n p = each_waiting P n (times q m (merge 0 a) (merge 0 b)) (each_merge P a 0 p.0, each_merge P b 0 p.1)

pub each_map : (P Q : Act → Type 0) → ((p : Act) → P p → Q p) → (b : Block) → Each P b → Each Q b
each_map P Q f nil p = tt
each_map P Q f (skip n b) p = each_map P Q f b p
each_map P Q f (act r b) p = (f r p.0, each_map P Q f b p.1)
each_map P Q f (branch q a d b) p = (each_map P Q f a p.0, each_map P Q f d p.1, each_map P Q f b p.2)
each_map P Q f (while q m a b) p = (each_map P Q f a p.0, each_map P Q f b p.1)
each_map P Q f (times q m a b) p = (each_map P Q f a p.0, each_map P Q f b p.1)
