-- What is after a block, and what the kind of a record says.
use Prim.Native.Nat.{ℕ, ◌+◌}
use mathlib.Core.Path.{◌≡◌, ap, sym, ◌∙◌}
use mathlib.Core.{Bool.true, Bool.false, Logic.⊎_elim, List.List}
use native.Mathlib.Omega.{arith}
use lib.{Dec.eqb, ListN.get_or}
use borrow.Author.Tests.{eqb-true, eq-eqb, ne_eqb}
use Rattle.model.specs.Records.{kind_at, IF, ELSE, WHILE, END, TIMES}
use Rattle.laws.proofs.Shapes.{or_cases}
use Rattle.reading.specs.Closing.{opens_block, closes_block}
use Rattle.running.specs.Promises.{Inner, closing, closed, passed, is_loop}

-- BEHIND A BLOCK

pub last_is : {s ends : List ℕ} (k : ℕ) → Inner s k ends → get_or ends (k + 1) 0 ≡ closing s k
unfolding closing
last_is k I = I.table.at (k + 1) (omega (arith, I.before))

pub past_else : (s : List ℕ) (k r : ℕ) {n : ℕ} → n ≡ kind_at s k → n ≡ ELSE → r ≡ closed s k → r ≡ passed s k
past_else s k r e h p = rw (eq-eqb (kind_at s k) ELSE (sym e ∙ h)) p

pub past_end : (s : List ℕ) (k : ℕ) {n : ℕ} → n ≡ kind_at s k → (n ≡ ELSE → ⊥) → k + 1 ≡ passed s k
past_end s k e h = rw (ne_eqb (kind_at s k) ELSE (λ x. h (e ∙ x)))

-- a record that is neither closes no block
pub closes_neither : {n m : ℕ} → n ≡ m → (n ≡ ELSE → ⊥) → (n ≡ END → ⊥) → closes_block m ≡ false
closes_neither {m = m} e h k = simp (ne_eqb m ELSE (λ x. h (e ∙ x)), ne_eqb m END (λ x. k (e ∙ x)))

-- WHAT IT IS

-- a loop closes no block
pub loop_goes_on : (k : ℕ) → is_loop k ≡ true → closes_block k ≡ false
loop_goes_on k h = ⊎_elim (λ e. ap closes_block (eqb-true k WHILE e)) (λ e. ap closes_block (eqb-true k TIMES e)) (or_cases (eqb k WHILE) (eqb k TIMES) h)

-- one that is no WHILE
pub loop_times : (k : ℕ) → is_loop k ≡ true → (k ≡ WHILE → ⊥) → k ≡ TIMES
loop_times k o y = eqb-true k TIMES (rw (ne_eqb k WHILE y) at o)

-- a record that is neither a loop nor an IF opens no block
pub opens_neither : {n m : ℕ} → n ≡ m → (n ≡ IF → ⊥) → is_loop n ≡ false → opens_block m ≡ false
opens_neither {n} e x h = ap opens_block (sym e) ∙ rw (ne_eqb n IF x) h
