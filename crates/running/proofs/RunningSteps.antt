-- The statement at a record: its fields are in range, and one that opens no block is a single step.
use Prim.Native.Nat.{ℕ, ◌+◌, ◌≤◌}
use native.Mathlib.Omega.{arith}
use mathlib.Core.Path.{◌≡◌, refl, ap, ap₂, sym, subst, ◌∙◌}
use mathlib.Core.Bool.{Bool, true, false, ◌||◌}
use mathlib.Core.{Logic.⊎_elim, List.List, List.[], List.◌∷◌}
use lib.Dec.{eqb}
use borrow.Author.Tests.{eqb-true, eqb-false}
use Rattle.model.specs.declared.{Form.Form, Settings.Settings}
use Rattle.model.specs.Records.{Rec, kind_at, record_at, SKIP, IF, WHILE, TIMES}
use Rattle.model.specs.Trees.{Act, set, read, write, check, beat, save, Block, nil, skip, act, branch, while, times, act_rec}
use Rattle.model.specs.{Times.ticks, Standing.Fit}
use Rattle.model.specs.Refusals.{between, unused, test_fits, fields_fit}
use Rattle.model.specs.Runs.{Effect, nothing, effect, Run, single, step}
use Rattle.laws.proofs.Shapes.{and_left, or_cases}
use Rattle.reading.specs.{Closing.opens_block, Closing.closes_block, Ranges.Stands, Ranges.first_size, Ranges.after_first}
use Rattle.reading.proofs.{Standing.stands_once, Walking.some, Walking.skip_at, Walking.act_at}
use Rattle.timing.specs.Times.{step_ticks}
use Rattle.timing.proofs.Firsts.{act_ticks}
use Rattle.std.proofs.Common.{Result}
use Rattle.stepping.specs.declared.{progress.Place.Place, progress.Halt.Halt, store.Store.Store}
use Rattle.stepping.specs.{Machines.runs, Machines.record_effect, Steps.going, Steps.Ran}
use Rattle.running.specs.Promises.{extent, first_run, Reached, Statement, StatementRan}
use Rattle.running.proofs.Running.{runs_same, ran_from}

-- FIELDS

-- a record that opens a block has a test
pub test_fitting : (r : Rec) → fields_fit r ≡ true → opens_block r.kind ≡ true → test_fits r ≡ true
unfolding fields_fit
test_fitting r h o =
    ⊎_elim (λ e. let k = eqb-true r.kind IF e in and_left (test_fits r) (unused (r.count ∷ [])) (rw k at h))
    (λ l. ⊎_elim
    (λ e. let k = eqb-true r.kind WHILE e in and_left (test_fits r) (between 1 65535 r.count) (rw k at h))
    (λ e. let k = eqb-true r.kind TIMES e in and_left (test_fits r) (between 1 65535 r.count) (rw k at h))
    (or_cases (eqb r.kind WHILE) (eqb r.kind TIMES) l))
    (or_cases (eqb r.kind IF) (eqb r.kind WHILE || eqb r.kind TIMES) o)

fits_at : {f : Form} (s : List ℕ) (i : ℕ) {r : Rec} → record_at s i ≡ r → Fit f r → fields_fit (record_at s i) ≡ true
fits_at s i e F = ap fields_fit e ∙ F.fields

first_fits : {f : Form} (s : List ℕ) (i : ℕ) {to : ℕ} (b : Block) → Stands f s i to b → 1 ≤ first_size b → fields_fit (record_at s i) ≡ true
first_fits s i nil B h = absurd (omega arith)
first_fits s i (skip n b) B h = fits_at s i B.fills.stands.0 B.fills.of_form.0
first_fits s i (act p b) B h = fits_at s i B.fills.stands.0 B.fills.of_form.0
first_fits s i (branch q a d b) B h = fits_at s i B.fills.stands.0.is B.fills.of_form.0
first_fits s i (while q n a b) B h = fits_at s i B.fills.stands.0.is B.fills.of_form.0
first_fits s i (times q n a b) B h = fits_at s i B.fills.stands.0.is B.fills.of_form.0

-- the kind of the record at an index
pub kind_there : {r x : Rec} {k : ℕ} → r ≡ x → r.kind ≡ k → x.kind ≡ k
kind_there e h = ap (λ (y : Rec). y.kind) (sym e) ∙ h

-- EFFECTS

act_effect : (ins : List ℕ) (p : Act) (v : List ℕ) → record_effect ins (act_rec p) v ≡ effect ins p v
unfolding effect
act_effect ins (set o t l x) v = refl
act_effect ins (read a p) v = refl
act_effect ins (write a p) v = refl
act_effect ins (check q) v = refl
act_effect ins (beat x) v = refl
act_effect ins (save m) v = refl

-- THE STATEMENT

-- a record that is reached and closes no block
pub reached_statement : {s : List ℕ} {i : ℕ} {ends ins : List ℕ} {limit t : ℕ} → Reached s i ends ins limit t → closes_block (kind_at s i) ≡ false → Statement s i ends ins limit t
reached_statement R k = record { given = R.given; form = R.form; at = record { file = R.file; early = R.inside; goes_on = k } }

module _ {s : List ℕ} {i : ℕ} {ends ins : List ℕ} {limit t : ℕ} (S : Statement s i ends ins limit t) where
  abbrev pub block : Block
  block = S.at.file.block

  stands : Stands S.form s i (extent s) block
  stands = S.at.file.stands

  -- what holds of it holds of every block at its place
  pub told : {σ : Settings} (b : Block) → block ≡ b → {w new : Store} {r : Result Place Halt} → Ran limit (first_run σ ins b i) (i + first_size b) t w new r
      → StatementRan s i σ ins limit t w new r
  told {σ} b e {w} {new} {r} A = record {
    right = λ f B.
        let same = stands_once block B.file.block stands B.file.stands in
        subst (λ (y : Block). Ran limit (first_run σ ins y i) (i + first_size y) t w new r) (sym e ∙ same) A;
  }

  module _ {r : Rec} (h : r ≡ record_at s i) where
    pub fields_fitting : fields_fit r ≡ true
    fields_fitting = ap fields_fit h ∙ first_fits s i block stands (some S.at)

    pub test_there : opens_block (kind_at s i) ≡ true → test_fits r ≡ true
    test_there o = test_fitting r fields_fitting (ap (λ (x : Rec). opens_block x.kind) h ∙ o)

    -- a record that opens no block
    module _ (shut : opens_block (kind_at s i) ≡ false) {σ : Settings} {w new : Store} {p : Result Place Halt}
        (R : Ran limit (single (step_ticks σ r) i (record_effect ins r)) (i + 1) t w new p) where
      one_step : (b : Block) → block ≡ b → (d : ℕ) (e : List ℕ → Effect) → first_run σ ins b i ≡ single d i e
          → first_size b ≡ 1 → step_ticks σ r ≡ d → ((v : List ℕ) → record_effect ins r v ≡ e v) → StatementRan s i σ ins limit t w new p
      one_step b is d e f n k u =
          told b is
          (ran_from
          (ap (λ (g : Run). runs limit g (going t w)) f ∙ runs_same limit (going t w) (λ v. ap₂ (λ (m : ℕ) (c : Effect). step m i c ∷ []) (sym k) (sym (u v))))
          (λ x o. omega (arith, n)) R)

      skipped : kind_at s i ≡ SKIP → StatementRan s i σ ins limit t w new p
      skipped e =
          let b = after_first block in
          let is = skip_at S.at e in
          let a = (subst (Stands S.form s i (extent s)) is stands).fills.stands.0 in
          one_step (skip (record_at s i).count b) is (record_at s i).count (λ v. nothing) refl refl (ap (step_ticks σ) (h ∙ a)) (λ v. ap (λ (q : Rec). record_effect ins q v) (h ∙ a))

      acted : (kind_at s i ≡ SKIP → ⊥) → StatementRan s i σ ins limit t w new p
      acted e =
          let A = act_at S.at shut e in
          let q = A.act_of in
          one_step (act q (after_first block)) A.is (ticks σ q) (effect ins q) refl refl (ap (step_ticks σ) (h ∙ A.same) ∙ act_ticks σ q)
          (λ v. ap (λ (c : Rec). record_effect ins c v) (h ∙ A.same) ∙ act_effect ins q v)

      pub step_ran : StatementRan s i σ ins limit t w new p
      step_ran = go (eqb (kind_at s i) SKIP) refl
        where
          go : (o : Bool) → eqb (kind_at s i) SKIP ≡ o → StatementRan s i σ ins limit t w new p
          go true e = skipped (eqb-true (kind_at s i) SKIP e)
          go false e = acted (eqb-false (kind_at s i) SKIP e)
