-- What a stop has done: the steps that end at or before its tick, and no others.
use Prim.Native.Nat.{ℕ, ◌+◌, ◌-◌, ◌≤◌, ◌<◌}
use native.Mathlib.Omega.{arith}
use mathlib.Core.Path.{◌≡◌, refl, ap, sym}
use mathlib.Core.Bool.{Bool, true, false, cond}
use mathlib.Core.List.{List, [], ◌∷◌, ◌++◌, nil≢cons, head-eq_of_cons-eq}
use lib.Dec.{leb}
use borrow.Author.Tests.{leb-true, leb-false, le-leb, lt-leb}
use Rattle.model.specs.{Runs.Step, Runs.duration, Stopping.upto, Timeline.ended_by}
use Rattle.theory.proofs.Sequences.{duration-++}

-- the steps that the stop cut off
abbrev pub beyond : ℕ → List Step → List Step
beyond c [] = []
beyond c (e ∷ es) = cond (leb e.lasts c) (beyond (c - e.lasts) es) (e ∷ es)

-- steps done by c, and the first of the others ends later
record Parted (c : ℕ) (es done left : List Step) : Type 0 where
  joins : es ≡ done ++ left
  within : duration done ≤ c
  late : (y : Step) (ys : List Step) → left ≡ y ∷ ys → c < duration done + y.lasts

parted : (c : ℕ) (es : List Step) → Parted c es (upto c es) (beyond c es)
parted c [] = record { joins = refl; within = omega arith; late = λ y ys e. absurd (nil≢cons e) }
parted c (x ∷ es) = go (leb x.lasts c) refl (parted (c - x.lasts) es)
  where
    go : (o : Bool) → leb x.lasts c ≡ o → Parted (c - x.lasts) es (upto (c - x.lasts) es) (beyond (c - x.lasts) es)
        → Parted c (x ∷ es) (cond o (x ∷ upto (c - x.lasts) es) []) (cond o (beyond (c - x.lasts) es) (x ∷ es))
    go true l p =
        let k = leb-true x.lasts c l in
        record { joins = ap (λ (fs : List Step). x ∷ fs) p.joins; within = omega (arith, p.within); late = λ y ys e. omega (arith, p.late y ys e) }
    go false l p =
        record { joins = refl; within = omega arith; late = λ y ys e. omega (arith, leb-false x.lasts c l, ap (λ (s : Step). s.lasts) (head-eq_of_cons-eq e)) }

pub upto_beyond : (c : ℕ) (es : List Step) → es ≡ upto c es ++ beyond c es
upto_beyond c es = (parted c es).joins

pub upto_within : (c : ℕ) (es : List Step) → duration (upto c es) ≤ c
upto_within c es = (parted c es).within

-- the first step cut off would have ended past c
pub beyond_late : (c : ℕ) (es : List Step) (y : Step) (ys : List Step) → beyond c es ≡ y ∷ ys → c < duration (upto c es) + y.lasts
beyond_late c es = (parted c es).late

-- any way to part the steps into those done by c and a first one that ends later is this one
pub upto_only : (c : ℕ) (pre : List Step) (y : Step) (ys : List Step) → duration pre ≤ c → c < duration pre + y.lasts → upto c (pre ++ y ∷ ys) ≡ pre
upto_only c [] y ys l k = rw (lt-leb y.lasts c (omega arith))
upto_only c (x ∷ pre) y ys l k = rw (le-leb x.lasts c (omega arith), upto_only (c - x.lasts) pre y ys (omega arith) (omega arith))

pub upto_all : (c : ℕ) (es : List Step) → duration es ≤ c → upto c es ≡ es
upto_all c [] l = refl
upto_all c (e ∷ es) l = rw (le-leb e.lasts c (omega arith), upto_all (c - e.lasts) es (omega arith))

ended_late : (c t : ℕ) (es : List Step) → c < t → ended_by c t es ≡ []
ended_late c t [] l = refl
ended_late c t (e ∷ es) l = rw (lt-leb (t + e.lasts) c (omega arith)) (ended_late c (t + e.lasts) es (omega arith))

ended_from : (c t : ℕ) (es : List Step) → t ≤ c → upto (c - t) es ≡ ended_by c t es
ended_from c t [] l = refl
ended_from c t (e ∷ es) l = go (leb (t + e.lasts) c) refl (ended_from c (t + e.lasts) es)
  where
    go : (o : Bool) → leb (t + e.lasts) c ≡ o → (t + e.lasts ≤ c → upto (c - (t + e.lasts)) es ≡ ended_by c (t + e.lasts) es)
        → upto (c - t) (e ∷ es) ≡ cond o (e ∷ []) [] ++ ended_by c (t + e.lasts) es
    go true k ih =
        let h = leb-true (t + e.lasts) c k in
        let z : c - t - e.lasts ≡ c - (t + e.lasts) = omega arith in
        rw (le-leb e.lasts (c - t) (omega arith), z, ih h)
    go false k ih =
        let h = leb-false (t + e.lasts) c k in
        rw (lt-leb e.lasts (c - t) (omega arith)) (sym (ended_late c (t + e.lasts) es h))

pub upto_ended : (c : ℕ) (es : List Step) → upto c es ≡ ended_by c 0 es
upto_ended c es = let z : c - 0 ≡ c = omega arith in rw z at (ended_from c 0 es (omega arith))

-- stopped before the end, some step is cut off
pub record CutOff (c : ℕ) (es : List Step) : Type 0 where
  pub next : Step
  pub later : List Step
  pub are : beyond c es ≡ next ∷ later

pub cut_off : (c : ℕ) (es : List Step) → c < duration es → CutOff c es
cut_off c es l = go (beyond c es) refl
  where
    go : (left : List Step) → beyond c es ≡ left → CutOff c es
    go (y ∷ ys) e = record { next = y; later = ys; are = e }
    go [] e = absurd (omega (arith, ap duration (upto_beyond c es), duration-++ (upto c es) (beyond c es), ap duration e, upto_within c es))
