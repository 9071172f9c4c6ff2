-- Fields that fit.
use Rattle.std.proofs.Common.{◌≡◌, ℕ, ◌%◌, ◌<◌, Bool, true, cond, ◌&&◌, [], ◌∷◌}
use Rattle.std.proofs.Common.{subst, ltb-true}
use lib.{Dec.eqb}
use Rattle.model.specs.Records.{Rec, rec, SET, READ, WRITE, CHECK}
use Rattle.model.specs.Refusals.{variable, port, unused, op_fits, set_fits, test_fits, fields_fit}
use Rattle.laws.proofs.Shapes.{and_left, and_right}

-- FIELDS THAT FIT

-- the parts of a SET's fields
abbrev left_fits : Rec → Bool
left_fits r = cond (eqb (r.op % 16) 0) (unused (r.left ∷ [])) (variable r.left)

set_front : (r : Rec) → set_fits r ≡ true → (op_fits 3 r.op r.value && variable r.target) ≡ true
set_front r h = and_left (op_fits 3 r.op r.value && variable r.target) (left_fits r) h

pub set_target : (r : Rec) → set_fits r ≡ true → r.target < 16
set_target r h = ltb-true r.target 16 (and_right (op_fits 3 r.op r.value) (variable r.target) (set_front r h))

-- what fits, by kind
fits_as : (k : ℕ) (r : Rec) → r.kind ≡ k → fields_fit r ≡ true → fields_fit (rec k r.op r.target r.left r.value r.count) ≡ true
fits_as k r e h = subst (λ (j : ℕ). fields_fit (rec j r.op r.target r.left r.value r.count) ≡ true) e h

pub fits_set : (r : Rec) → r.kind ≡ SET → fields_fit r ≡ true → set_fits r ≡ true
unfolding fields_fit
fits_set r e h = and_left (set_fits r) (unused (r.count ∷ [])) (fits_as 2 r e h)

pub fits_check : (r : Rec) → r.kind ≡ CHECK → fields_fit r ≡ true → test_fits r ≡ true
unfolding fields_fit
fits_check r e h = and_left (test_fits r) (unused (r.count ∷ [])) (fits_as 10 r e h)

-- a variable and a port
ported : (r : Rec) → (unused (r.op ∷ r.value ∷ r.count ∷ []) && variable r.target && port r.left) ≡ true → (r.target < 16) × (r.left < 8)
ported r h =
    let u : Bool = unused (r.op ∷ r.value ∷ r.count ∷ []) in (
      ltb-true r.target 16 (and_right u (variable r.target) (and_left (u && variable r.target) (port r.left) h)),
      ltb-true r.left 8 (and_right (u && variable r.target) (port r.left) h),
    )

pub fits_read : (r : Rec) → r.kind ≡ READ → fields_fit r ≡ true → (r.target < 16) × (r.left < 8)
unfolding fields_fit
fits_read r e h = ported r (fits_as 3 r e h)

pub fits_write : (r : Rec) → r.kind ≡ WRITE → fields_fit r ≡ true → (r.target < 16) × (r.left < 8)
unfolding fields_fit
fits_write r e h = ported r (fits_as 4 r e h)
