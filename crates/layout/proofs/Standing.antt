-- The statements of an equalised file: it has no loop but TIMES, which has at least one round.
use Prim.Native.Nat.{ℕ, ◌≤◌}
use native.Mathlib.Omega.{arith}
use mathlib.Core.Path.{◌≡◌, refl, subst}
use mathlib.Core.{Bool.false≢true, Logic.inr, List.List}
use Rattle.model.specs.declared.Form.TheVariants.{Equalised}
use Rattle.model.specs.Records.{kind_at, record_at, SKIP, IF, TIMES}
use Rattle.model.specs.Trees.{Block, nil, skip, act, branch, while, times}
use Rattle.reading.specs.{Ranges.Stands, Ranges.first_size, Ranges.test_of, Walks.StatementAt}
use Rattle.reading.proofs.{FirstKinds.kind_is, FirstKinds.IsAct, Walking.some, Walking.times_at}
use Rattle.timing.proofs.Firsts.{loop_count}

module _ {s : List ℕ} {i to : ℕ} where
  act_first : (b : Block) → Stands Equalised s i to b → 1 ≤ first_size b → (kind_at s i ≡ SKIP → ⊥) → (kind_at s i ≡ IF → ⊥) → (kind_at s i ≡ TIMES → ⊥) → IsAct (record_at s i) b
  act_first nil B h x y z = absurd (omega arith)
  act_first (skip n b) B h x y z = absurd (x (kind_is s i B.fills.stands.0))
  act_first (act p b) B h x y z = record { act_of = p; same = B.fills.stands.0; is = refl }
  act_first (branch q a d b) B h x y z = absurd (y (kind_is s i B.fills.stands.0.is))
  act_first (while q n a b) B h x y z = absurd (false≢true B.fills.of_form.0.kind)
  act_first (times q n a b) B h x y z = absurd (z (kind_is s i B.fills.stands.0.is))

  module _ (A : StatementAt Equalised s i to) where
    pub act_at : (kind_at s i ≡ SKIP → ⊥) → (kind_at s i ≡ IF → ⊥) → (kind_at s i ≡ TIMES → ⊥) → IsAct (record_at s i) A.file.block
    act_at x y z = act_first A.file.block A.file.stands (some A) x y z

    pub some_rounds : kind_at s i ≡ TIMES → 1 ≤ (record_at s i).count
    some_rounds e =
        loop_count Equalised TIMES (test_of (record_at s i)) (record_at s i).count (inr refl)
        (subst (Stands Equalised s i to) (times_at A e) A.file.stands).fills.of_form.0
