-- A block of a file, walked statement by statement: the statement at a place by the kind of its record, the blocks inside it, and the turns of the walk.
use Prim.Native.Nat.{ℕ, ◌+◌, ◌/◌, ◌≤◌, ◌<◌}
use native.Mathlib.{Omega.arith, Nat.lt_of_not-le}
use mathlib.Core.Path.{◌≡◌, refl, ap, sym, subst, ◌∙◌}
use mathlib.Core.{Bool.true, Bool.false, Bool.true≢false, List.List}
use lib.ListN.{length}
use Rattle.model.specs.declared.Form.TheVariants.{Task}
use Rattle.model.specs.declared.Form.{Form}
use Rattle.model.specs.Records.{Rec, kind_at, record_at, SKIP, IF, WHILE, TIMES}
use Rattle.model.specs.Trees.{Block, nil, skip, while, times, size, depth, file_tree}
use Rattle.records.specs.declared.Record.{Record}
use Rattle.records.specs.Records.{record_of}
use Rattle.reading.specs.Closing.{opens_block, closes_block}
use Rattle.reading.specs.Ranges.{SoundFile, Fills, Stands, InFile, first_size, first_part, second_part, after_first, test_of}
use Rattle.reading.specs.Walks.{StatementAt, OpenAt, IfAt, Walk}
use Rattle.reading.proofs.FirstKinds.{kind_is, IsAct, skip_is, act_is, if_is, while_is, times_is, task_loop}
use Rattle.reading.proofs.Filled.{size_first, fills_after, first_some}
use Rattle.reading.proofs.Standing.{stands_file, stands_last, stands_once, stands_closed, stands_end, stands_one, stands_two, stands_open}

-- A BLOCK IN A FILE

-- the tree of a sound file
abbrev pub whole_file : {f : Form} {s : List ℕ} → SoundFile f s → InFile f s 0 (length s / 12)
whole_file {f} {s} S = record { block = file_tree s; stands = stands_file f s S; inside = omega arith }

-- what holds of the block that stands at a place holds of every block that stands there
module _ {f g : Form} {s : List ℕ} {i to : ℕ} (P : Block → Type 0) (F : InFile f s i to) where
  pub every_of : {a : Block} → F.block ≡ a → P a → (b : Block) → Stands g s i to b → P b
  every_of e h b B = subst P (sym e ∙ stands_once F.block b F.stands B) h

  pub every : P F.block → (b : Block) → Stands g s i to b → P b
  every h b B = every_of refl h b B

-- A STATEMENT

module _ {f : Form} {s : List ℕ} {i to : ℕ} (A : StatementAt f s i to) where
  abbrev pub block : Block
  block = A.file.block

  not_empty : size block ≤ 0 → ⊥
  not_empty h =
      let e : i + size block ≡ i = omega arith in
      true≢false (sym (A.file.stands.stops (omega (arith, A.early))) ∙ ap (λ (k : ℕ). closes_block (kind_at s k)) e ∙ A.goes_on)

  begun : i < i + size block
  begun = omega (arith, lt_of_not-le not_empty)

  -- it has a record
  pub some : 1 ≤ first_size block
  some = first_some block A.file.stands.fills begun

  -- another block of the same file
  abbrev pub elsewhere : {j : ℕ} (a : Block) → Stands f s j to a → InFile f s j to
  elsewhere a S = record { block = a; stands = S; inside = A.file.inside }

  -- the block after it
  fills_behind : Fills f s (i + first_size block) (i + size block) (depth block) (after_first block)
  fills_behind = fills_after f s i (i + size block) (depth block) block begun A.file.stands.fills

  pub stands_behind : Stands f s (i + first_size block) to (after_first block)
  stands_behind = stands_last (i + first_size block) (after_first block) A.file.stands fills_behind.stands fills_behind.of_form fills_behind.ends

  pub shallow_behind : depth (after_first block) ≤ depth block
  shallow_behind = fills_behind.shallow

  abbrev pub behind : {j : ℕ} → j ≡ i + first_size block → InFile f s j to
  behind e = elsewhere (after_first block) (subst (λ (j : ℕ). Stands f s j to (after_first block)) (sym e) stands_behind)

  -- BY THE KIND OF ITS RECORD

  -- x is the record that was read there
  module _ {x : Record} (e : record_of x ≡ record_at s i) where
    pub kind_there : {k : ℕ} → x.kind ≡ k → kind_at s i ≡ k
    kind_there h = kind_is s i (sym e) ∙ h

    pub count_there : x.count ≡ (record_at s i).count
    count_there = ap (λ (y : Rec). y.count) e

  pub skip_at : kind_at s i ≡ SKIP → block ≡ skip (record_at s i).count (after_first block)
  skip_at e = skip_is begun block A.file.stands.fills e

  pub act_at : opens_block (kind_at s i) ≡ false → (kind_at s i ≡ SKIP → ⊥) → IsAct (record_at s i) block
  act_at o x = act_is begun block A.file.stands.fills o x

  pub times_at : kind_at s i ≡ TIMES → block ≡ times (test_of (record_at s i)) (record_at s i).count (first_part block) (after_first block)
  times_at e = times_is begun block A.file.stands.fills e

  pub while_at : kind_at s i ≡ WHILE → block ≡ while (test_of (record_at s i)) (record_at s i).count (first_part block) (after_first block)
  while_at e = while_is begun block A.file.stands.fills e

  -- one that opens a block
  module _ (o : opens_block (kind_at s i) ≡ true) where
    pub open_at : OpenAt f s i to block
    open_at = stands_open block A.file.stands begun o

    abbrev pub first_in_is : InFile f s (i + 1) to
    first_in_is = elsewhere (first_part block) open_at.first

  module _ (k : kind_at s i ≡ IF) where
    pub if_at : IfAt f s i to block
    if_at =
        let q = test_of (record_at s i) in
        let e = if_is begun block A.file.stands.fills k in
        let B = subst (Stands f s i to) e A.file.stands in
        let j : i + 2 + size (first_part block) ≡ i + 1 + size (first_part block) + 1 = omega arith in
        record {
          is = e;
          first = stands_one q (first_part block) (second_part block) (after_first block) B;
          second = subst (λ (j : ℕ). Stands f s j to (second_part block)) j (stands_two q (first_part block) (second_part block) (after_first block) B);
          ends = omega (arith, B.ends);
        }

    -- the second side after the ELSE at m
    abbrev pub second_in : {m : ℕ} → m ≡ i + 1 + size (first_part block) → InFile f s (m + 1) to
    second_in e = elsewhere (second_part block) (subst (λ (j : ℕ). Stands f s (j + 1) to (second_part block)) (sym e) if_at.second)

-- a task has no loop but WHILE
pub task_while : {s : List ℕ} {i to : ℕ} (A : StatementAt Task s i to) → opens_block (kind_at s i) ≡ true → (kind_at s i ≡ IF → ⊥)
    → block A ≡ while (test_of (record_at s i)) (record_at s i).count (first_part (block A)) (after_first (block A))
task_while A o x = while_at A (task_loop (begun A) (block A) A.file.stands.fills o x)

-- THE WALK

module _ {f : Form} {s : List ℕ} {from to : ℕ} where
  abbrev pub walk_start : (F : InFile f s from to) → Walk F from
  walk_start F = record { rest = F; on = omega arith; counts = refl; shallow = omega arith }

  module _ {F : InFile f s from to} {i : ℕ} (W : Walk F i) where
    -- nothing is left
    pub none_closed : closes_block (kind_at s i) ≡ true → W.rest.block ≡ nil
    none_closed k = stands_closed W.rest.block W.rest.stands k

    pub none_ended : to ≤ i → W.rest.block ≡ nil
    none_ended l = stands_end W.rest.block W.rest.stands l

    pub walk_end : W.rest.block ≡ nil → i ≡ from + size F.block
    walk_end e = omega (arith, W.counts, ap size e)

    -- a statement is left
    module _ (l : i < to) (k : closes_block (kind_at s i) ≡ false) where
      abbrev pub walk_at : StatementAt f s i to
      walk_at = record { file = W.rest; early = l; goes_on = k }

      -- and then the record j
      module _ {j : ℕ} (e : j ≡ i + first_size W.rest.block) where
        pub walk_on : i < j
        walk_on = omega (arith, some walk_at)

        abbrev pub walk_next : Walk F j
        walk_next = record {
          rest = behind walk_at e;
          on = omega (arith, W.on, walk_on);
          counts = omega (arith, W.counts, size_first W.rest.block);
          shallow = omega (arith, W.shallow, shallow_behind walk_at);
        }
