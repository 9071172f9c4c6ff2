-- The blocks of a file by where they start: there is one at each place, and the blocks inside a statement stand after its record.
use Prim.Native.Nat.{ℕ, ◌+◌, ◌-◌, ◌/◌, ◌≤◌, ◌<◌}
use native.Mathlib.Omega.{arith}
use mathlib.Core.Path.{◌≡◌, refl, ap, sym, subst, ◌∙◌}
use mathlib.Core.{Bool.Bool, Bool.true, Bool.false, List.List}
use lib.{Dec.ltb, ListN.length}
use borrow.Author.Tests.{ltb-true, ltb-false}
use Rattle.model.specs.declared.Form.{Form}
use Rattle.model.specs.{Records.Rec, Records.kind_at, Records.record_at, Standing.At, Standing.LoopAt, Standing.OfForm}
use Rattle.model.specs.Trees.{Test, Block, nil, skip, act, branch, while, times, size, file_tree}
use Rattle.laws.proofs.{Stands.stands_once as one_stands, Sound.sound_file}
use Rattle.reading.specs.Closing.{opens_block, closes_block, closing_in}
use Rattle.reading.specs.{Walks.OpenAt, Ranges.SoundFile, Ranges.Stands}
use Rattle.reading.proofs.{BlockEnds.found, BlockEnds.ends_block, BlockEnds.ran_out, FirstKinds.kind_is, FirstKinds.act_opens, FirstKinds.shut}
use Rattle.reading.proofs.{Filled.fills_none}

-- the tree of a sound file
pub stands_file : (f : Form) (s : List ℕ) → SoundFile f s → Stands f s 0 (length s / 12) (file_tree s)
stands_file f s S =
    let k = sound_file f s S.sound in
    record {
      fills = record { stands = k.stands; ends = refl; shallow = omega arith; of_form = k.of_form };
      ends = omega (arith, k.whole_records);
      stops = λ h. absurd (omega (arith, k.whole_records));
    }

-- a record that closes a block shows by its kind
closes : (s : List ℕ) (i : ℕ) {r : Rec} → record_at s i ≡ r → closes_block r.kind ≡ true → closes_block (kind_at s i) ≡ true
closes s i e h = ap closes_block (kind_is s i e) ∙ h

closes_at : (s : List ℕ) (i j : ℕ) → i ≡ j → closes_block (kind_at s i) ≡ true → closes_block (kind_at s j) ≡ true
closes_at s i j e h = subst (λ (k : ℕ). closes_block (kind_at s k) ≡ true) e h

-- what a test of a record's kind says of the record at an index
pub told : (p : ℕ → Bool) {k m : ℕ} {o b : Bool} → k ≡ m → o ≡ p k → o ≡ b → p m ≡ b
told p e f g = ap p (sym e) ∙ sym f ∙ g

-- a block that is at i, and ends where one is closed or with the records
pub standing_at : {f : Form} {s : List ℕ} {i to : ℕ} (b : Block) → At s i b → OfForm f b → i + size b ≤ to
    → (i + size b < to → closes_block (kind_at s (i + size b)) ≡ true) → Stands f s i to b
standing_at b at f l h = record { fills = record { stands = at; ends = refl; shallow = omega arith; of_form = f }; ends = l; stops = h }

module _ {f : Form} {s : List ℕ} {i to : ℕ} where
  -- where it ends is what the scan for the end of a block finds
  pub ending : (b : Block) → Stands f s i to b → closing_in s (to - i) i 0 ≡ i + size b
  ending b B = go (ltb (i + size b) to) refl
    where
      go : (o : Bool) → ltb (i + size b) to ≡ o → closing_in s (to - i) i 0 ≡ i + size b
      go true e =
          let h = ltb-true (i + size b) to e in
          found s b (to - i) i B.fills.stands (omega arith) (ends_block (kind_at s (i + size b)) (B.stops h))
      go false e = ran_out s b (to - i) i B.fills.stands (omega (arith, ltb-false (i + size b) to e))

-- there is only one, whatever the form
pub stands_once : {f g : Form} {s : List ℕ} {i to : ℕ} (a b : Block) → Stands f s i to a → Stands g s i to b → a ≡ b
stands_once {f} {g} {s} {i} a b A B = one_stands s i a b A.fills.stands B.fills.stands (omega (arith, ending a A, ending b B))

module _ {f : Form} {s : List ℕ} {i to : ℕ} where
  -- nothing stands where a block is closed, or at the end
  pub stands_closed : (b : Block) → Stands f s i to b → closes_block (kind_at s i) ≡ true → b ≡ nil
  stands_closed b B k = stands_once b nil B (standing_at {f = f} nil tt tt (omega arith) (λ h. closes_at s i (i + 0) (omega arith) k))

  pub stands_end : (b : Block) → Stands f s i to b → to ≤ i → b ≡ nil
  stands_end b B l = fills_none b B.fills (omega arith)

  -- the last part of a block
  pub stands_last : {b : Block} (h : ℕ) (c : Block) → Stands f s i to b → At s h c → OfForm f c → h + size c ≡ i + size b → Stands f s h to c
  stands_last {b} h c B at o e = standing_at c at o (omega (arith, B.ends)) (λ l. closes_at s (i + size b) (h + size c) (sym e) (B.stops (omega arith)))

  -- the sides of an IF
  module _ (q : Test) (a d b : Block) (B : Stands f s i to (branch q a d b)) where
    pub stands_one : Stands f s (i + 1) to a
    stands_one = standing_at a B.fills.stands.1 B.fills.of_form.1 (omega (arith, B.ends)) (λ h. closes s (i + 1 + size a) B.fills.stands.0.middle refl)

    pub stands_two : Stands f s (i + 2 + size a) to d
    stands_two =
        standing_at d B.fills.stands.2 B.fills.of_form.2 (omega (arith, B.ends)) (λ h. closes s (i + 2 + size a + size d) B.fills.stands.0.last refl)

  -- the body of a loop
  pub stands_body : {k : ℕ} {q : Test} {n : ℕ} (a : Block) → LoopAt s i k q n (size a) → At s (i + 1) a → OfForm f a → i + (2 + size a) ≤ to → Stands f s (i + 1) to a
  stands_body a L at o h = standing_at a at o (omega arith) (λ l. closes s (i + 1 + size a) L.last refl)

  -- the block after a record that opens one, which is closed in the file
  pub stands_open : (b : Block) → Stands f s i to b → i < i + size b → opens_block (kind_at s i) ≡ true → OpenAt f s i to b
  stands_open nil B h o = absurd (omega arith)
  stands_open (skip n b) B h o = absurd (shut s i B.fills.stands.0 refl o)
  stands_open (act p b) B h o = absurd (shut s i B.fills.stands.0 (act_opens p) o)
  stands_open (branch q a d b) B h o = record { first = stands_one q a d b B; ends = omega (arith, B.ends); deeper = omega arith }
  stands_open (while q n a b) B h o =
      let F = B.fills in
      record { first = stands_body a F.stands.0 F.stands.1 F.of_form.1 (omega (arith, B.ends)); ends = omega (arith, B.ends); deeper = omega arith }
  stands_open (times q n a b) B h o =
      let F = B.fills in
      record { first = stands_body a F.stands.0 F.stands.1 F.of_form.1 (omega (arith, B.ends)); ends = omega (arith, B.ends); deeper = omega arith }
