-- The table of closings: each entry follows from those after it.
use Prim.Native.Nat.{ℕ, ◌+◌, ◌*◌, ◌-◌, ◌≤◌, ◌<◌}
use native.Mathlib.Omega.{arith}
use mathlib.Core.Path.{◌≡◌, refl, ap, sym, subst, ◌∙◌}
use mathlib.Core.Logic.{◌⊎◌, inl, inr, ⊎_elim}
use mathlib.Core.Bool.{Bool, true, false, ◌||◌}
use mathlib.Core.List.{List}
use lib.{Dec.eqb, Dec.leb, Seq.get_or-set_same, Seq.get_or-set_other}
use lib.ListN.{length, get_or, set, length-set}
use borrow.Author.Tests.{leb-true, leb-false, eqb-true}
use Rattle.model.specs.declared.Form.{Form}
use Rattle.model.specs.Records.{kind_at, IF, ELSE, WHILE, END, TIMES}
use Rattle.model.specs.Trees.{Block, nil, skip, act, branch, while, times, size}
use Rattle.laws.proofs.Shapes.{or_cases, neither}
use Rattle.reading.specs.Closing.{opens_block, closes_block, pass_to, closing_in, ClosingsFrom, Closings, On}
use Rattle.reading.specs.Ranges.{Stands, InFile, Fillable, first_size, first_part, second_part}
use Rattle.reading.specs.Walks.{StatementAt}
use Rattle.reading.proofs.{BlockEnds.ends_block, BlockEnds.step, BlockEnds.stop, Filled.size_first}
use Rattle.reading.proofs.Standing.{ending, stands_last, stands_one, stands_two, stands_body}
use Rattle.reading.proofs.Walking.{block, some, behind, while_at, times_at, open_at, first_in_is, if_at, second_in}

-- A BLOCK STANDS AT EACH RECORD OF A BLOCK

up_to : (j k : ℕ) → (j ≤ k) ⊎ (k + 1 ≤ j)
up_to j k = go (leb j k) refl
  where
    go : (o : Bool) → leb j k ≡ o → (j ≤ k) ⊎ (k + 1 ≤ j)
    go true e = inl (leb-true j k e)
    go false e = inr (omega (arith, leb-false j k e))

module _ {f : Form} {s : List ℕ} {to : ℕ} (inside : 12 * to ≤ length s) where
  whole : {i j : ℕ} (b : Block) → Stands f s i to b → i ≡ j → InFile f s j to
  whole b B e = record { block = b; stands = subst (λ (k : ℕ). Stands f s k to b) e B; inside = inside }

  stands_each : (b : Block) (i j : ℕ) → Stands f s i to b → i ≤ j → j ≤ i + size b → InFile f s j to
  stands_each nil i j B l m = whole nil B (omega arith)
  stands_each (skip n b) i j B l m =
      ⊎_elim (λ h. whole (skip n b) B (omega arith))
      (λ h. stands_each b (i + 1) j (stands_last (i + 1) b B B.fills.stands.1 B.fills.of_form.1 (omega arith)) h (omega arith))
      (up_to j i)
  stands_each (act p b) i j B l m =
      ⊎_elim (λ h. whole (act p b) B (omega arith))
      (λ h. stands_each b (i + 1) j (stands_last (i + 1) b B B.fills.stands.1 B.fills.of_form.1 (omega arith)) h (omega arith))
      (up_to j i)
  stands_each (branch q a d b) i j B l m =
      let F = B.fills in
      let k = i + 3 + size a + size d in
      ⊎_elim (λ h. whole (branch q a d b) B (omega arith))
      (λ h. ⊎_elim (λ g. stands_each a (i + 1) j (stands_one q a d b B) h g)
      (λ g. ⊎_elim (λ t. stands_each d (i + 2 + size a) j (stands_two q a d b B) (omega arith) t)
      (λ t. stands_each b k j (stands_last k b B F.stands.3 F.of_form.3 (omega arith)) (omega arith) (omega arith))
      (up_to j (i + 2 + size a + size d)))
      (up_to j (i + 1 + size a)))
      (up_to j i)
  stands_each (while q n a b) i j B l m =
      let F = B.fills in
      let k = i + 2 + size a in
      ⊎_elim (λ h. whole (while q n a b) B (omega arith))
      (λ h. ⊎_elim (λ g. stands_each a (i + 1) j (stands_body a F.stands.0 F.stands.1 F.of_form.1 (omega (arith, B.ends))) h g)
      (λ g. stands_each b k j (stands_last k b B F.stands.2 F.of_form.2 (omega arith)) (omega arith) (omega arith))
      (up_to j (i + 1 + size a)))
      (up_to j i)
  stands_each (times q n a b) i j B l m =
      let F = B.fills in
      let k = i + 2 + size a in
      ⊎_elim (λ h. whole (times q n a b) B (omega arith))
      (λ h. ⊎_elim (λ g. stands_each a (i + 1) j (stands_body a F.stands.0 F.stands.1 F.of_form.1 (omega (arith, B.ends))) h g)
      (λ g. stands_each b k j (stands_last k b B F.stands.2 F.of_form.2 (omega arith)) (omega arith) (omega arith))
      (up_to j (i + 1 + size a)))
      (up_to j i)

-- THE ENTRY OF ONE RECORD

pass_plain : (k : ℕ) → opens_block k ≡ false → closes_block k ≡ false → pass_to k 0 ≡ On 0
pass_plain k o c = let p = neither (eqb k ELSE) (eqb k END) c in rw (o, p.0, p.1)

module _ {s : List ℕ} (i : ℕ) {to : ℕ} {ends : List ℕ} (F : Fillable s to ends) where
  pub closing_end : to ≤ i → i ≡ closing_in s (to - i) i 0
  closing_end l = sym (stop s (to - i) i 0 (omega arith))

  pub closing_shut : i < to → closes_block (kind_at s i) ≡ true → i ≡ closing_in s (to - i) i 0
  closing_shut l h = sym (step s (to - i) (to - i - 1) i 0 (omega arith) (ends_block (kind_at s i) h))

pub closing_plain : {s : List ℕ} (i : ℕ) {to : ℕ} {ends : List ℕ} → ClosingsFrom s (i + 1) to ends → i < to → closes_block (kind_at s i) ≡ false
    → opens_block (kind_at s i) ≡ false → get_or ends (i + 1) 0 ≡ closing_in s (to - i) i 0
closing_plain {s} i {to} T l k o = T.at (i + 1) (omega arith) (omega arith) ∙ sym (step s (to - i) (to - (i + 1)) i 0 (omega arith) (pass_plain (kind_at s i) o k))

-- a record of a file that opens a block, with the table after it
pub record Opener (s : List ℕ) (i to : ℕ) (closings : List ℕ) : Type 0 where
  pub fillable : Fillable s to closings
  pub behind : ClosingsFrom s (i + 1) to closings
  pub inside : i < to
  pub goes_on : closes_block (kind_at s i) ≡ false
  pub opens : opens_block (kind_at s i) ≡ true

module _ {s : List ℕ} {i to : ℕ} {ends : List ℕ} (O : Opener s i to ends) where
  abbrev f : Form
  f = O.fillable.form

  -- the statement there
  A : StatementAt f s i to
  A = record {
    file = stands_each O.fillable.file.inside O.fillable.file.block 0 i O.fillable.file.stands (omega arith) (omega (arith, O.inside, O.fillable.ends));
    early = O.inside;
    goes_on = O.goes_on;
  }

  -- what the table has at j, where a block stands
  entry : {j : ℕ} (F : InFile f s j to) → i + 1 ≤ j → get_or ends j 0 ≡ j + size F.block
  entry {j} F m = O.behind.at j m (omega (arith, F.stands.ends)) ∙ ending F.block F.stands

  first : get_or ends (i + 1) 0 ≡ i + 1 + size (first_part (block A))
  first = entry (first_in_is A O.opens) (omega arith)

  pub first_early : get_or ends (i + 1) 0 < to
  first_early = omega (arith, first, (open_at A O.opens).ends)

  -- what follows the statement
  after : {j : ℕ} → j ≡ i + first_size (block A) → get_or ends j 0 ≡ closing_in s (to - i) i 0
  after e = entry (behind A e) (omega (arith, some A)) ∙ omega (arith, size_first (block A)) ∙ sym (ending (block A) A.file.stands)

  pub closing_loop : (kind_at s i ≡ IF → ⊥) → get_or ends (get_or ends (i + 1) 0 + 1) 0 ≡ closing_in s (to - i) i 0
  closing_loop x = after (omega (arith, first, sizes))
    where
      sizes : first_size (block A) ≡ 2 + size (first_part (block A))
      sizes =
          ⊎_elim (λ e. absurd (x (eqb-true (kind_at s i) IF e)))
          (λ e. ⊎_elim (λ w. ap first_size (while_at A (eqb-true (kind_at s i) WHILE w))) (λ t. ap first_size (times_at A (eqb-true (kind_at s i) TIMES t)))
          (or_cases (eqb (kind_at s i) WHILE) (eqb (kind_at s i) TIMES) e))
          (or_cases (eqb (kind_at s i) IF) (eqb (kind_at s i) WHILE || eqb (kind_at s i) TIMES) O.opens)

  module _ (e : kind_at s i ≡ IF) where
    second : get_or ends (get_or ends (i + 1) 0 + 1) 0 ≡ i + 2 + size (first_part (block A)) + size (second_part (block A))
    second = entry (second_in A e first) (omega (arith, first)) ∙ omega (arith, first)

    pub second_early : get_or ends (get_or ends (i + 1) 0 + 1) 0 < to
    second_early = omega (arith, second, (if_at A e).ends)

    pub closing_if : get_or ends (get_or ends (get_or ends (i + 1) 0 + 1) 0 + 1) 0 ≡ closing_in s (to - i) i 0
    closing_if = after (omega (arith, second, ap first_size (if_at A e).is))

-- THE TABLE

-- filled from i on
pub record Filled (s : List ℕ) (i to : ℕ) (old closings : List ℕ) : Type 0 where
  pub fillable : Fillable s to closings
  pub low : i ≤ to + 1
  pub from : ClosingsFrom s i to closings
  pub same : length closings ≡ length old

module _ {s : List ℕ} {to : ℕ} {ends : List ℕ} where
  pub filled_start : Fillable s to ends → Filled s (to + 1) to ends ends
  filled_start F = record { fillable = F; low = omega arith; from = record { at = λ j l h. absurd (omega arith) }; same = refl }

  pub filled_all : {i : ℕ} {old : List ℕ} → Filled s i to old ends → i ≤ 0 → Closings s to ends
  filled_all T l = record { room = T.fillable.room; at = λ j h. T.from.at j (omega arith) h }

  module _ {i : ℕ} {old : List ℕ} (T : Filled s i to old ends) (l : 0 < i) where
    pub filled_asks : Fillable s to ends × (i - 1 ≤ to) × ClosingsFrom s (i - 1 + 1) to ends
    filled_asks = (T.fillable, omega (arith, T.low), record { at = λ j m h. T.from.at j (omega arith) h })

    pub filled_next : (c : ℕ) → c ≡ closing_in s (to - (i - 1)) (i - 1) 0 → Filled s (i - 1) to old (set ends (i - 1) c)
    filled_next c e =
        let n = length-set ends (i - 1) c in
        let F = T.fillable in
        record {
          fillable = record { form = F.form; file = F.file; ends = F.ends; few = F.few; room = omega (arith, n, F.room) };
          low = omega (arith, T.low);
          from = record { at = λ j m h. go j m h (up_to j (i - 1)) };
          same = n ∙ T.same;
        }
      where
        go : (j : ℕ) → i - 1 ≤ j → j ≤ to → (j ≤ i - 1) ⊎ (i - 1 + 1 ≤ j) → get_or (set ends (i - 1) c) j 0 ≡ closing_in s (to - j) j 0
        go j m h (inl k) =
            let y : i - 1 ≡ j = omega arith in
            subst (λ (x : ℕ). get_or (set ends (i - 1) c) x 0 ≡ closing_in s (to - x) x 0) y (get_or-set_same ends (i - 1) c 0 (omega (arith, T.fillable.room, T.low)) ∙ e)
        go j m h (inr k) = get_or-set_other ends (i - 1) j c 0 (λ y. omega arith) ∙ T.from.at j (omega arith) h
