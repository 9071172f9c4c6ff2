-- The loop that a WHILE becomes, written in three parts: up to its body, the body, and what follows it.
use Prim.Native.Nat.{ℕ, ◌+◌, ◌^◌, ◌≤◌, ◌<◌}
use native.Mathlib.Omega.{arith}
use mathlib.Core.Path.{◌≡◌, refl, ap, sym, subst, ◌∙◌}
use mathlib.Core.{Bool.true, List.List, List.◌++◌}
use lib.ListN.{length}
use Rattle.model.specs.declared.Settings.{Settings}
use Rattle.model.specs.declared.Form.TheVariants.{Task}
use Rattle.model.specs.Records.{Rec, kind_at, record_at, IF, over}
use Rattle.model.specs.{Trees.Block, Trees.while, Trees.size, Times.time}
use Rattle.records.specs.declared.Record.{Record}
use Rattle.records.specs.{Records.record_of, Blocks.block_bytes, Blocks.Wrote}
use Rattle.records.proofs.Over.{Part, lent, back, part_first, part_fits_last}
use Rattle.records.proofs.Laying.{wrote_room, wrote_last}
use Rattle.reading.specs.{Closing.opens_block, Walks.StatementAt}
use Rattle.reading.specs.Ranges.{first_part, after_first, test_of}
use Rattle.reading.proofs.Walking.{block, open_at, first_in_is, task_while}
use Rattle.timing.proofs.Firsts.{parts_time, time_first}
use Rattle.equaliser.specs.declared.{pads.Pad.Pad, write.Written.Written}
use Rattle.equaliser.specs.{Merged.padded, Merged.first_out, Pads.pad_at, Pads.Entry}
use Rattle.equaliser.specs.Written.{loop_head, loop_tail, BlockFits, BlockWritten, StatementFits, WritesStatement}
use Rattle.equaliser.proofs.{WrittenBytes.loop_bytes, WrittenBytes.loop_bytes_is, WrittenParts.block_fits, WrittenParts.block_laid, WrittenParts.block_goes}

module _ {s : List ℕ} {i to : ℕ} {pads : List Pad} {old : List ℕ} (F : StatementFits s i to 0 pads old) {r : Record} (same : record_of r ≡ record_at s i)
    (o : opens_block (kind_at s i) ≡ true) (x : kind_at s i ≡ IF → ⊥) where
  abbrev at : StatementAt Task s i to
  at = F.statement

  abbrev σ : Settings
  σ = F.settings

  abbrev all : Block
  all = block at

  abbrev body : Block
  body = first_part all

  is_loop : all ≡ while (test_of (record_of r)) r.count body (after_first all)
  is_loop = task_while at o x ∙ ap (λ (y : Rec). while (test_of y) y.count body (after_first all)) (sym same)

  laid : loop_bytes σ (record_of r) body ≡ block_bytes (first_out σ 0 (while (test_of (record_of r)) r.count body (after_first all)))
  laid = sym (loop_bytes_is σ (record_of r) body)

  -- what was kept for it
  known : (pad_at pads i).first ≡ time σ body
  known = subst (Entry σ (pad_at pads i)) is_loop (F.kept.entry i (omega arith) at.early all at.file.stands)

  short : time σ body + 0 < 2 ^ 32
  short = omega (arith, F.within, parts_time σ Task all at.file.stands.fills.of_form, time_first σ all)

  room : length (loop_bytes σ (record_of r) body) ≤ length old
  room = subst (λ (bs : List ℕ). length bs ≤ length old) (sym (laid ∙ ap (λ (b : Block). block_bytes (first_out σ 0 b)) (sym is_loop))) F.room

  -- the loop is laid up to its body, and with it
  pub record HeadLaid (new : List ℕ) (at : ℕ) : Type 0 where
    pub part : Part (loop_bytes σ (record_of r) body) (block_bytes (padded σ 0 body 0) ++ loop_tail (time σ body)) old new at

  pub record BodyLaid (new : List ℕ) (at next : ℕ) : Type 0 where
    pub part : Part (loop_bytes σ (record_of r) body) (loop_tail (time σ body)) old new at
    pub goes : next ≡ i + 1 + size body

  pub head_fits : 24 ≤ length old
  head_fits = omega (arith, room)

  pub head_laid : {new : List ℕ} → new ≡ over (loop_head (record_of r)) old → HeadLaid new 24
  head_laid e = record { part = part_first (loop_head (record_of r)) room e refl }

  module _ {new : List ℕ} {n : ℕ} where
    module _ (p : HeadLaid new n) where
      pub body_fits : BlockFits s (i + 1) to 0 pads (lent new n)
      body_fits = block_fits (first_in_is at o) F.few F.kept 0 refl short (loop_tail (time σ body)) p.part

      pub body_laid : {ys : List ℕ} {w : Written} → BlockWritten s (i + 1) to 0 pads (lent new n) ys w → BodyLaid (back new n ys) (n + w.bytes) w.next
      body_laid W = record {
        part = block_laid (first_in_is at o) F.few F.kept 0 refl short (loop_tail (time σ body)) p.part W;
        goes = block_goes (first_in_is at o) F.few F.kept 0 refl short (loop_tail (time σ body)) p.part W;
      }

    module _ {m : ℕ} (p : BodyLaid new n m) where
      pub body_early : m < to
      body_early = omega (arith, p.goes, (open_at at o).ends)

      pub tail_fits : length (loop_tail ((pad_at pads i).first)) ≤ length (lent new n)
      tail_fits = rw known (part_fits_last p.part)

      module _ {ys : List ℕ} {t : ℕ} (W : Wrote (loop_tail ((pad_at pads i).first)) (lent new n) ys t) where
        pub tail_room : n + t ≤ length old
        tail_room = wrote_room p.part (rw known at W)

        pub tail_laid : WritesStatement F.settings i 0 F.statement.file.block old (back new n ys) (record { next = m + 1; bytes = n + t; wait = 0 })
        tail_laid =
            subst (λ (b : Block). WritesStatement σ i 0 b old (back new n ys) (record { next = m + 1; bytes = n + t; wait = 0 })) (sym is_loop)
            (record { wrote = subst (λ (bs : List ℕ). Wrote bs old (back new n ys) (n + t)) laid (wrote_last p.part (rw known at W)); waits = refl; goes = omega (arith, p.goes) })

  -- what is laid once the body is written
  pub by_body : {new ys : List ℕ} {w : Written} → new ≡ over (loop_head (record_of r)) old → BlockWritten s (i + 1) to 0 pads (lent new 24) ys w
      → BodyLaid (back new 24 ys) (24 + w.bytes) w.next
  by_body e W = body_laid (head_laid e) W
