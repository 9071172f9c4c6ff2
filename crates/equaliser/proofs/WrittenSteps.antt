-- The first statement of a block, written by the kind of its record: a SKIP only waits; any other follows the SKIP of what waited.
use Prim.Native.Nat.{ℕ, ◌+◌, ◌^◌, ◌≤◌, ◌<◌}
use native.Mathlib.Omega.{arith}
use mathlib.Core.Path.{◌≡◌, refl, ap, sym, subst, ◌∙◌}
use mathlib.Core.{Bool.true, Bool.false, List.List, List.◌++◌}
use lib.ListN.{length, length-append}
use Rattle.model.specs.declared.Settings.{Settings}
use Rattle.model.specs.declared.Form.TheVariants.{Task}
use Rattle.model.specs.Records.{Rec, record_bytes, bytes, kind_at, record_at, SKIP, over}
use Rattle.model.specs.Trees.{Block, nil, skip, act, branch, while, times, linearise}
use Rattle.model.specs.Times.{time}
use Rattle.records.specs.declared.Record.{Record}
use Rattle.records.specs.{Records.record_of, Blocks.block_bytes, Blocks.skip_bytes, Blocks.Wrote}
use Rattle.records.proofs.Over.{Part, lent, back, part_first, part_room, part_fits_last}
use Rattle.records.proofs.{Laying.record_wrote, Laying.wrote_room, Laying.wrote_last, Blocks.waiting_bytes, Blocks.act_bytes}
use Rattle.reading.specs.{Closing.opens_block, Walks.StatementAt}
use Rattle.reading.specs.Ranges.{Stands, first_size, after_first}
use Rattle.reading.proofs.FirstKinds.{IsAct, shut}
use Rattle.reading.proofs.Walking.{block, some, skip_at, act_at}
use Rattle.equaliser.specs.declared.{pads.Pad.Pad, write.Written.Written}
use Rattle.equaliser.specs.Merged.{branch_out, loop_out, padded, first_out, first_waits}
use Rattle.equaliser.specs.Written.{StatementFits, WritesStatement, StatementWritten}

-- what waited is written before any statement but a SKIP
waited : (σ : Settings) {s : List ℕ} {i to : ℕ} (w : ℕ) (b : Block) → Stands Task s i to b → 1 ≤ first_size b → (kind_at s i ≡ SKIP → ⊥)
    → block_bytes (first_out σ w b) ≡ skip_bytes w ++ block_bytes (first_out σ 0 b)
waited σ w nil B l k = absurd (omega arith)
waited σ w (skip n b) B l k = absurd (k (ap (λ (x : Rec). x.kind) B.fills.stands.0))
waited σ w (act p b) B l k = waiting_bytes w (act p nil)
waited σ w (branch q a d b) B l k = waiting_bytes w (branch_out σ q a d)
waited σ w (while q n a b) B l k = waiting_bytes w (loop_out σ q n a)
waited σ w (times q n a b) B l k = waiting_bytes w (times q n (padded σ 0 a 0) nil)

-- after a statement that opens a block nothing waits, whatever waited before
opens_waits : {s : List ℕ} {i to : ℕ} (w : ℕ) (b : Block) → Stands Task s i to b → 1 ≤ first_size b → opens_block (kind_at s i) ≡ true → 0 ≡ first_waits w b
opens_waits w nil B l o = absurd (omega arith)
opens_waits {s} {i} w (skip n b) B l o = absurd (shut s i B.fills.stands.0 refl o)
opens_waits w (act p b) B l o = refl
opens_waits w (branch q a d b) B l o = refl
opens_waits w (while q n a b) B l o = refl
opens_waits w (times q n a b) B l o = refl

module _ {s : List ℕ} {i to w : ℕ} {pads : List Pad} {old : List ℕ} (F : StatementFits s i to w pads old) {r : Record} (same : record_of r ≡ record_at s i) where
  abbrev at : StatementAt Task s i to
  at = F.statement

  abbrev σ : Settings
  σ = F.settings

  abbrev all : Block
  all = block at

  kind : r.kind ≡ kind_at s i
  kind = ap (λ (x : Rec). x.kind) same

  -- A SKIP

  module _ (k : r.kind ≡ SKIP) where
    is_skip : all ≡ skip r.count (after_first all)
    is_skip = skip_at at (sym kind ∙ k) ∙ ap (λ (x : Rec). skip x.count (after_first all)) (sym same)

    pub skip_short : w + r.count < 2 ^ 32
    skip_short = omega (arith, F.within, ap (time σ) is_skip)

    pub skip_written : WritesStatement F.settings i w F.statement.file.block old old (record { next = i + 1; bytes = 0; wait = w + r.count })
    unfolding block_bytes linearise bytes
    skip_written =
        subst (λ (b : Block). WritesStatement σ i w b old old (record { next = i + 1; bytes = 0; wait = w + r.count })) (sym is_skip)
        (record { wrote = record { laid = refl; count = refl }; waits = refl; goes = refl })

  -- ANY OTHER: WHAT WAITED

  module _ (k : r.kind ≡ SKIP → ⊥) where
    whole : block_bytes (first_out σ w all) ≡ skip_bytes w ++ block_bytes (first_out σ 0 all)
    whole = waited σ w all at.file.stands (some at) (λ h. k (kind ∙ h))

    pub skip_fits : length (skip_bytes w) ≤ length old
    skip_fits = omega (arith, F.room, ap length whole, length-append (skip_bytes w) (block_bytes (first_out σ 0 all)))

    -- it is laid, and the statement is left
    pub record Begun (new : List ℕ) (n : ℕ) : Type 0 where
      pub part : Part (block_bytes (first_out σ w all)) (block_bytes (first_out σ 0 all)) old new n

    pub begun : {new : List ℕ} {n : ℕ} → Wrote (skip_bytes w) old new n → Begun new n
    begun {new} {n} W = record {
      part = subst (λ (bs : List ℕ). Part bs (block_bytes (first_out σ 0 all)) old new n) (sym whole)
          (part_first (skip_bytes w) (subst (λ (bs : List ℕ). length bs ≤ length old) whole F.room) W.laid W.count);
    }

    module _ {new : List ℕ} {n : ℕ} (p : Begun new n) where
      -- A STATEMENT THAT OPENS A BLOCK

      abbrev pub inner_fits : StatementFits s i to 0 pads (lent new n)
      inner_fits = record { settings = σ; statement = at; few = F.few; kept = F.kept; within = omega (arith, F.within); room = part_fits_last p.part }

      module _ {ys : List ℕ} {u : Written} (W : StatementWritten s i to 0 pads (lent new n) ys u) where
        pub inner_room : n + u.bytes ≤ length old
        inner_room = wrote_room p.part (W.right inner_fits).wrote

        pub inner_written : opens_block r.kind ≡ true
            → WritesStatement F.settings i w F.statement.file.block old (back new n ys) (record { next = u.next; bytes = n + u.bytes; wait = 0 })
        inner_written o = record {
          wrote = wrote_last p.part (W.right inner_fits).wrote;
          waits = opens_waits w all at.file.stands (some at) (ap opens_block (sym kind) ∙ o);
          goes = (W.right inner_fits).goes;
        }

      -- AN ACT

      module _ (o : opens_block r.kind ≡ false) where
        is_act : IsAct (record_at s i) all
        is_act = act_at at (ap opens_block (sym kind) ∙ o) (λ h. k (kind ∙ h))

        abbrev the_act : Block
        the_act = act is_act.act_of (after_first all)

        act_left : Part (block_bytes (first_out σ w the_act)) (record_bytes (record_of r)) old new n
        act_left =
            subst (λ (bs : List ℕ). Part (block_bytes (first_out σ w the_act)) bs old new n)
            (act_bytes is_act.act_of ∙ ap record_bytes (sym (same ∙ is_act.same)))
            (subst (λ (x : Block). Part (block_bytes (first_out σ w x)) (block_bytes (first_out σ 0 x)) old new n) is_act.is p.part)

        pub act_fits : 12 ≤ length (lent new n)
        act_fits = part_fits_last act_left

        pub act_room : n + 12 ≤ length old
        act_room = part_room act_left

        pub act_written : {ys : List ℕ} → ys ≡ over (record_bytes (record_of r)) (lent new n)
            → WritesStatement F.settings i w F.statement.file.block old (back new n ys) (record { next = i + 1; bytes = n + 12; wait = 0 })
        act_written {ys} h =
            subst (λ (b : Block). WritesStatement σ i w b old (back new n ys) (record { next = i + 1; bytes = n + 12; wait = 0 })) (sym is_act.is)
            (record { wrote = wrote_last act_left (record_wrote (record_of r) h); waits = refl; goes = refl })
