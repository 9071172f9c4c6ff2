-- What callees lay over what they are lent, as steps of Part: a record, any bytes.
use Rattle.std.proofs.Common.{ℕ, ◌+◌, ◌≤◌, length, arith}
use mathlib.Core.{Path.◌≡◌, Path.refl, List.List, List.◌++◌}
use Rattle.model.specs.Records.{Rec, record_bytes, over}
use Rattle.records.specs.Blocks.{Wrote}
use Rattle.records.proofs.Over.{Part, lent, back, part_room, part_lent, part_last, part_count}

pub record_wrote : (x : Rec) {old new : List ℕ} → new ≡ over (record_bytes x) old → Wrote (record_bytes x) old new 12
record_wrote x e = record { laid = e; count = refl }

module _ {w old new ys : List ℕ} {at n : ℕ} where
  pub wrote_next : {rest : List ℕ} (bs : List ℕ) → Part w (bs ++ rest) old new at → Wrote bs (lent new at) ys n → Part w rest old (back new at ys) (at + n)
  wrote_next bs p W = part_lent bs p W.laid W.count

  pub wrote_room : {bs : List ℕ} → Part w bs old new at → Wrote bs (lent new at) ys n → at + n ≤ length old
  wrote_room p W = omega (arith, part_room p, W.count)

  pub wrote_last : {bs : List ℕ} → Part w bs old new at → Wrote bs (lent new at) ys n → Wrote w old (back new at ys) (at + n)
  wrote_last p W = record { laid = part_last p W.laid; count = part_count p W.count }
