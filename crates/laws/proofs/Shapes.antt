-- Which statements and marks the records that pass the tests on kind and fields are.
use Prim.Native.Nat.{ℕ, suc, ◌≤◌}
use native.Mathlib.Omega.{arith}
use mathlib.Core.{Path.◌≡◌, Path.refl, Path.subst, List.List, List.[], List.◌∷◌}
use mathlib.Core.Bool.{Bool, true, false, ◌&&◌, ◌||◌, true≢false}
use mathlib.Core.Logic.{◌⊎◌, inl, inr, ⊎_elim}
use lib.Dec.{eqb, leb}
use borrow.Author.Tests.{eqb-true, eqb-false, leb-true}
use Rattle.model.specs.declared.Form.{Form}
use Rattle.model.specs.declared.Form.TheVariants.{Task, Equalised, Laid}
use Rattle.model.specs.Records.{Rec, rec, SET, READ, WRITE, IF, WHILE, TIMES, CHECK, BEAT, SAVE}
use Rattle.model.specs.Trees.{Test, Act, set, read, write, check, beat, save, test_rec, skip_rec, act_rec, else_rec, end_rec}
use Rattle.model.specs.Refusals.{between, kind_fits, variable, port, unused, op_fits, set_fits, test_fits, fields_fit}
use Rattle.model.specs.Standing.{Fit}

-- TESTS

pub and_left : (a b : Bool) → (a && b) ≡ true → a ≡ true
and_left true b e = refl
and_left false b e = e

pub and_right : (a b : Bool) → (a && b) ≡ true → b ≡ true
and_right true b e = e
and_right false b e = let z : ◌≡◌ {A = ℕ} 0 1 = cc in absurd (omega arith)

pub or_cases : (a b : Bool) → (a || b) ≡ true → (a ≡ true) ⊎ (b ≡ true)
or_cases true b e = inl refl
or_cases false b e = inr e

pub neither : (a b : Bool) → (a || b) ≡ false → (a ≡ false) × (b ≡ false)
neither true b e = absurd (true≢false e)
neither false b e = (refl, e)

pub and_false : (a b : Bool) → (a && b) ≡ false → (a ≡ false) ⊎ (b ≡ false)
and_false true b e = inr e
and_false false b e = inl refl

pub within : (a b n : ℕ) → between a b n ≡ true → (a ≤ n) × (n ≤ b)
within a b n e = (leb-true a n (and_left (leb a n) (leb n b) e), leb-true n b (and_right (leb a n) (leb n b) e))

abbrev pub Zeros : List ℕ → Type 0
Zeros [] = Unit {0}
Zeros (n ∷ ns) = (n ≡ 0) × Zeros ns

pub zeros : (ns : List ℕ) → unused ns ≡ true → Zeros ns
zeros [] e = tt
zeros (n ∷ ns) e = (eqb-true n 0 (and_left (eqb n 0) (unused ns) e), zeros ns (and_right (eqb n 0) (unused ns) e))

-- WHICH RECORDS THERE ARE

-- what holds of the kind of every record that opens and closes no block, SKIP apart
pub by_act : (P : ℕ → Type 0) → P SET → P READ → P WRITE → P CHECK → P BEAT → P SAVE → (p : Act) → P (act_rec p).kind
by_act P s r w c b v (set o t l x) = s
by_act P s r w c b v (read a p) = r
by_act P s r w c b v (write a p) = w
by_act P s r w c b v (check q) = c
by_act P s r w c b v (beat x) = b
by_act P s r w c b v (save m) = v

-- the statement or the mark that a record is
pub data Shape : Rec → Type 0 where
  is_skip : (n : ℕ) → Shape (skip_rec n)
  is_act : (p : Act) → Shape (act_rec p)
  is_if : (q : Test) → Shape (test_rec IF q 0)
  is_while : (q : Test) (n : ℕ) → Shape (test_rec WHILE q n)
  is_times : (q : Test) (n : ℕ) → Shape (test_rec TIMES q n)
  is_else : Shape else_rec
  is_end : Shape end_rec

abbrev Shaped : ℕ → Type 0
Shaped k = (o t l x n : ℕ) → fields_fit (rec k o t l x n) ≡ true → Shape (rec k o t l x n)

-- one kind, and those above it
or_above : (k m : ℕ) → Shaped k → ((j : ℕ) → suc k ≤ j → j ≤ m → Shaped j) → (j : ℕ) → k ≤ j → j ≤ m → Shaped j
or_above k m here above j l h = go (eqb k j) refl
  where
    go : (o : Bool) → eqb k j ≡ o → Shaped j
    go true e = subst Shaped (eqb-true k j e) here
    go false e = above j (let q = eqb-false k j e in omega arith) h

abbrev test_of : ℕ → ℕ → ℕ → Test
test_of o l x = record { relation = o; left = l; right = x }

-- the unused bytes of a test
test_target : (k o t l x n : ℕ) → test_fits (rec k o t l x n) ≡ true → t ≡ 0
test_target k o t l x n h = (zeros (t ∷ []) (and_right (op_fits 5 o x) (unused (t ∷ [])) (and_left (op_fits 5 o x && unused (t ∷ [])) (variable l) h))).0

shaped_skip : Shaped 1
unfolding fields_fit
shaped_skip o t l x n h =
    let z = zeros (o ∷ t ∷ l ∷ x ∷ []) (and_left (unused (o ∷ t ∷ l ∷ x ∷ [])) (between 1 1000000 n) h) in
    rw (z.0, z.1.0, z.1.1.0, z.1.1.1.0) (is_skip n)

shaped_set : Shaped 2
unfolding fields_fit
shaped_set o t l x n h = rw (zeros (n ∷ []) (and_right (set_fits (rec 2 o t l x n)) (unused (n ∷ [])) h)).0 (is_act (set o t l x))

port_zeros : (o t l x n : ℕ) → (unused (o ∷ x ∷ n ∷ []) && variable t && port l) ≡ true → Zeros (o ∷ x ∷ n ∷ [])
port_zeros o t l x n h = zeros (o ∷ x ∷ n ∷ []) (and_left (unused (o ∷ x ∷ n ∷ [])) (variable t) (and_left (unused (o ∷ x ∷ n ∷ []) && variable t) (port l) h))

shaped_read : Shaped 3
unfolding fields_fit
shaped_read o t l x n h = let z = port_zeros o t l x n h in rw (z.0, z.1.0, z.1.1.0) (is_act (read t l))

shaped_write : Shaped 4
unfolding fields_fit
shaped_write o t l x n h = let z = port_zeros o t l x n h in rw (z.0, z.1.0, z.1.1.0) (is_act (write t l))

-- a test with no count, and one with a count
bare_test : (k o t l x n : ℕ) → (test_fits (rec k o t l x n) && unused (n ∷ [])) ≡ true → (t ≡ 0) × (n ≡ 0)
bare_test k o t l x n h = (
  test_target k o t l x n (and_left (test_fits (rec k o t l x n)) (unused (n ∷ [])) h),
  (zeros (n ∷ []) (and_right (test_fits (rec k o t l x n)) (unused (n ∷ [])) h)).0,
)

counted_test : (k o t l x n : ℕ) → (test_fits (rec k o t l x n) && between 1 65535 n) ≡ true → t ≡ 0
counted_test k o t l x n h = test_target k o t l x n (and_left (test_fits (rec k o t l x n)) (between 1 65535 n) h)

shaped_if : Shaped 5
unfolding fields_fit
shaped_if o t l x n h = let z = bare_test 5 o t l x n h in rw (z.0, z.1) (is_if (test_of o l x))

shaped_while : Shaped 7
unfolding fields_fit
shaped_while o t l x n h = rw (counted_test 7 o t l x n h) (is_while (test_of o l x) n)

shaped_times : Shaped 9
unfolding fields_fit
shaped_times o t l x n h = rw (counted_test 9 o t l x n h) (is_times (test_of o l x) n)

shaped_check : Shaped 10
unfolding fields_fit
shaped_check o t l x n h = let z = bare_test 10 o t l x n h in rw (z.0, z.1) (is_act (check (test_of o l x)))

shaped_beat : Shaped 11
unfolding fields_fit
shaped_beat o t l x n h =
    let z = zeros (o ∷ t ∷ l ∷ n ∷ []) (and_left (unused (o ∷ t ∷ l ∷ n ∷ [])) (leb x 1000000) h) in
    rw (z.0, z.1.0, z.1.1.0, z.1.1.1.0) (is_act (beat x))

-- ELSE, END and SAVE use no byte but the kind
shaped_bare : (k o t l x n : ℕ) → unused (o ∷ t ∷ l ∷ x ∷ n ∷ []) ≡ true → Shape (rec k 0 0 0 0 0) → Shape (rec k o t l x n)
shaped_bare k o t l x n h p =
    let z = zeros (o ∷ t ∷ l ∷ x ∷ n ∷ []) h in rw (z.0, z.1.0, z.1.1.0, z.1.1.1.0, z.1.1.1.1.0) p

shaped_else : Shaped 6
unfolding fields_fit
shaped_else o t l x n h = shaped_bare 6 o t l x n h is_else

shaped_end : Shaped 8
unfolding fields_fit
shaped_end o t l x n h = shaped_bare 8 o t l x n h is_end

shaped_save : Shaped 12
unfolding fields_fit
shaped_save o t l x n h = shaped_bare 12 o t l x n h (is_act (save 0))

pub kind_range : (f : Form) (k : ℕ) → kind_fits f k ≡ true → (1 ≤ k) × (k ≤ 12)
kind_range Task k h = let w = within 1 8 k h in omega arith
kind_range Equalised k h =
    ⊎_elim
    (λ e. let w = within 1 6 k e in omega arith)
    (λ e. let w = within 8 9 k e in omega arith)
    (or_cases (between 1 6 k) (between 8 9 k) h)
kind_range Laid k h =
    ⊎_elim
    (λ e. ⊎_elim (λ e. let w = within 1 6 k e in omega arith) (λ e. let w = eqb-true k 8 e in omega arith) (or_cases (between 1 6 k) (eqb k 8) e))
    (λ e. let w = within 10 12 k e in omega arith)
    (or_cases (between 1 6 k || eqb k 8) (between 10 12 k) h)

pub shape : (f : Form) (r : Rec) → Fit f r → Shape r
shape f r p =
    or_above 1 12 shaped_skip
    (or_above 2 12 shaped_set
    (or_above 3 12 shaped_read
    (or_above 4 12 shaped_write
    (or_above 5 12 shaped_if
    (or_above 6 12 shaped_else
    (or_above 7 12 shaped_while
    (or_above 8 12 shaped_end
    (or_above 9 12 shaped_times
    (or_above 10 12 shaped_check
    (or_above 11 12 shaped_beat
    (or_above 12 12 shaped_save
    (λ j l h. absurd (omega arith)))))))))))))
    r.kind (kind_range f r.kind p.kind).0 (kind_range f r.kind p.kind).1
    r.op r.target r.left r.value r.count p.fields
