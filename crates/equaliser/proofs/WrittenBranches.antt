-- An IF, written in five parts: its record, the first side, ELSE, the second side and END.
use Prim.Native.Nat.{ℕ, ◌+◌, ◌-◌, ◌^◌, ◌≤◌, ◌<◌}
use native.Mathlib.Omega.{arith}
use mathlib.Core.Path.{◌≡◌, refl, ap, sym, subst, ◌∙◌}
use mathlib.Core.List.{List, ◌++◌}
use lib.ListN.{length}
use Rattle.model.specs.declared.Settings.{Settings}
use Rattle.model.specs.declared.Form.TheVariants.{Task}
use Rattle.model.specs.Records.{Rec, kind_at, record_at, record_bytes, IF, over}
use Rattle.model.specs.Trees.{Block, branch, size, test_rec, else_rec, end_rec}
use Rattle.model.specs.Times.{time}
use Rattle.records.specs.declared.Record.{Record}
use Rattle.records.specs.{Records.record_of, Blocks.block_bytes, Blocks.Wrote}
use Rattle.records.proofs.Over.{Part, lent, back, part_first, part_fits, part_fits_last}
use Rattle.records.proofs.{Laying.record_wrote, Laying.wrote_next, Laying.wrote_last, Blocks.branch_bytes_is}
use Rattle.reading.specs.Ranges.{Stands, first_part, second_part, after_first, test_of}
use Rattle.reading.specs.{Closing.opens_block, Walks.StatementAt}
use Rattle.reading.proofs.Walking.{block, if_at, first_in_is, second_in}
use Rattle.equaliser.specs.declared.{pads.Pad.Pad, write.Written.Written}
use Rattle.equaliser.specs.{Merged.padded, Merged.first_out, Pads.pad_of, Pads.pad_at, Pads.Entry}
use Rattle.equaliser.specs.Written.{BlockFits, BlockWritten, StatementFits, WritesStatement}
use Rattle.equaliser.proofs.{WrittenBytes.branch_bytes, WrittenParts.block_fits, WrittenParts.block_laid, WrittenParts.block_goes}

module _ {s : List ℕ} {i to : ℕ} {pads : List Pad} {old : List ℕ} (F : StatementFits s i to 0 pads old) {r : Record} (same : record_of r ≡ record_at s i) (k : kind_at s i ≡ IF) where
  abbrev at : StatementAt Task s i to
  at = F.statement

  abbrev σ : Settings
  σ = F.settings

  abbrev all : Block
  all = block at

  abbrev one : Block
  one = first_part all

  abbrev two : Block
  two = second_part all

  -- the ticks by which each side is shorter than the other
  abbrev pad_one : ℕ
  pad_one = time σ two - time σ one

  abbrev pad_two : ℕ
  pad_two = time σ one - time σ two

  is_if : all ≡ branch (test_of (record_of r)) one two (after_first all)
  is_if = (if_at at k).is ∙ ap (λ (y : Rec). branch (test_of y) one two (after_first all)) (sym same)

  -- its record says no more than its test
  if_record : record_of r ≡ test_rec IF (test_of (record_of r)) 0
  if_record = same ∙ (subst (Stands Task s i to) is_if at.file.stands).fills.stands.0.is

  whole : block_bytes (first_out σ 0 all) ≡ branch_bytes σ (record_of r) one two
  whole =
      ap (λ (x : Block). block_bytes (first_out σ 0 x)) is_if
      ∙ branch_bytes_is (test_of (record_of r)) (padded σ 0 one pad_one) (padded σ 0 two pad_two)
      ∙ ap (λ (y : Rec). branch_bytes σ y one two) (sym if_record)

  laid : branch_bytes σ (record_of r) one two ≡ block_bytes (first_out σ 0 (branch (test_of (record_of r)) one two (after_first all)))
  laid = sym whole ∙ ap (λ (x : Block). block_bytes (first_out σ 0 x)) is_if

  -- what was kept for it
  known : pad_at pads i ≡ pad_of pad_one pad_two
  known = subst (Entry σ (pad_at pads i)) is_if (F.kept.entry i (omega arith) at.early all at.file.stands)

  short : (time σ one + pad_one < 2 ^ 32) × (time σ two + pad_two < 2 ^ 32)
  short = (omega (arith, F.within, ap (time σ) is_if), omega (arith, F.within, ap (time σ) is_if))

  -- what follows ELSE, and what follows the first side
  abbrev after_else : List ℕ
  after_else = block_bytes (padded σ 0 two pad_two) ++ record_bytes end_rec

  abbrev after_one : List ℕ
  after_one = record_bytes else_rec ++ after_else

  -- how far the IF is laid
  pub record TestLaid (new : List ℕ) (at : ℕ) : Type 0 where
    pub part : Part (branch_bytes σ (record_of r) one two) (block_bytes (padded σ 0 one pad_one) ++ after_one) old new at

  pub record FirstLaid (new : List ℕ) (at next : ℕ) : Type 0 where
    pub part : Part (branch_bytes σ (record_of r) one two) after_one old new at
    pub goes : next ≡ i + 1 + size one

  pub record ElseLaid (new : List ℕ) (at next : ℕ) : Type 0 where
    pub part : Part (branch_bytes σ (record_of r) one two) after_else old new at
    pub goes : next ≡ i + 1 + size one

  pub record SecondLaid (new : List ℕ) (at next : ℕ) : Type 0 where
    pub part : Part (branch_bytes σ (record_of r) one two) (record_bytes end_rec) old new at
    pub goes : next + 1 ≡ i + (3 + size one + size two)

  room : length (branch_bytes σ (record_of r) one two) ≤ length old
  room = subst (λ (bs : List ℕ). length bs ≤ length old) whole F.room

  pub test_fits : 12 ≤ length old
  test_fits = omega (arith, room)

  pub test_laid : {new : List ℕ} → new ≡ over (record_bytes (record_of r)) old → TestLaid new 12
  test_laid e = record { part = part_first (record_bytes (record_of r)) room e refl }

  module _ {new : List ℕ} {n : ℕ} where
    module _ (p : TestLaid new n) where
      pub first_fits : BlockFits s (i + 1) to ((pad_at pads i).first) pads (lent new n)
      first_fits = block_fits (first_in_is at (ap opens_block k)) F.few F.kept pad_one (ap (λ (p : Pad). p.first) known) short.0 after_one p.part

      pub first_laid : {ys : List ℕ} {w : Written} → BlockWritten s (i + 1) to ((pad_at pads i).first) pads (lent new n) ys w → FirstLaid (back new n ys) (n + w.bytes) w.next
      first_laid W = record {
        part = block_laid (first_in_is at (ap opens_block k)) F.few F.kept pad_one (ap (λ (p : Pad). p.first) known) short.0 after_one p.part W;
        goes = block_goes (first_in_is at (ap opens_block k)) F.few F.kept pad_one (ap (λ (p : Pad). p.first) known) short.0 after_one p.part W;
      }

    module _ {m : ℕ} (p : FirstLaid new n m) where
      pub else_fits : 12 ≤ length (lent new n)
      else_fits = part_fits (record_bytes else_rec) after_else p.part

      pub else_laid : {ys : List ℕ} → ys ≡ over (record_bytes else_rec) (lent new n) → ElseLaid (back new n ys) (n + 12) m
      else_laid e = record { part = wrote_next (record_bytes else_rec) p.part (record_wrote else_rec e); goes = p.goes }

    module _ {m : ℕ} (p : ElseLaid new n m) where
      pub else_early : m < to
      else_early = omega (arith, p.goes, (if_at at k).ends)

      pub else_late : i < m
      else_late = omega (arith, p.goes)

      pub second_fits : BlockFits s (m + 1) to ((pad_at pads i).second) pads (lent new n)
      second_fits = block_fits (second_in at k p.goes) F.few F.kept pad_two (ap (λ (p : Pad). p.second) known) short.1 (record_bytes end_rec) p.part

      pub second_laid : {ys : List ℕ} {w : Written} → BlockWritten s (m + 1) to ((pad_at pads i).second) pads (lent new n) ys w → SecondLaid (back new n ys) (n + w.bytes) w.next
      second_laid W = record {
        part = block_laid (second_in at k p.goes) F.few F.kept pad_two (ap (λ (p : Pad). p.second) known) short.1 (record_bytes end_rec) p.part W;
        goes = omega (arith, p.goes, block_goes (second_in at k p.goes) F.few F.kept pad_two (ap (λ (p : Pad). p.second) known) short.1 (record_bytes end_rec) p.part W);
      }

    module _ {m : ℕ} (p : SecondLaid new n m) where
      pub end_early : m < to
      end_early = omega (arith, p.goes, (if_at at k).ends)

      pub end_fits : 12 ≤ length (lent new n)
      end_fits = part_fits_last p.part

      pub end_laid : {ys : List ℕ} → ys ≡ over (record_bytes end_rec) (lent new n)
          → WritesStatement F.settings i 0 F.statement.file.block old (back new n ys) (record { next = m + 1; bytes = n + 12; wait = 0 })
      end_laid {ys} e =
          subst (λ (b : Block). WritesStatement σ i 0 b old (back new n ys) (record { next = m + 1; bytes = n + 12; wait = 0 })) (sym is_if)
          (record { wrote = subst (λ (bs : List ℕ). Wrote bs old (back new n ys) (n + 12)) laid (wrote_last p.part (record_wrote end_rec e)); waits = refl; goes = p.goes })

  -- what is laid by each place
  module _ {new ys : List ℕ} {w : Written} (e : new ≡ over (record_bytes (record_of r)) old)
      (W : BlockWritten s (i + 1) to ((pad_at pads i).first) pads (lent new 12) ys w) where
    pub by_first : FirstLaid (back new 12 ys) (12 + w.bytes) w.next
    by_first = first_laid (test_laid e) W

    module _ {zs : List ℕ} (f : zs ≡ over (record_bytes else_rec) (lent (back new 12 ys) (12 + w.bytes))) where
      pub by_else : ElseLaid (back (back new 12 ys) (12 + w.bytes) zs) (12 + w.bytes + 12) w.next
      by_else = else_laid by_first f

      pub by_second : {us : List ℕ} {v : Written}
          → BlockWritten s (w.next + 1) to ((pad_at pads i).second) pads (lent (back (back new 12 ys) (12 + w.bytes) zs) (12 + w.bytes + 12)) us v
          → SecondLaid (back (back (back new 12 ys) (12 + w.bytes) zs) (12 + w.bytes + 12) us) (12 + w.bytes + 12 + v.bytes) v.next
      by_second V = second_laid by_else V
