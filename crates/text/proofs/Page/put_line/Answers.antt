use Rattle.std.proofs.Common.{refl, arith}
use Rattle.text.proofs.Pieces.{within, within_then, within_same}
use Rattle.text.proofs.Page.put_line.Goals as goal

pub returns : goal.returns
returns c =
    let begun = within_then c.put_number.ensures (within {n = 1} c.put_text.ensures (omega arith)) in
    let named = within_same {n = 5} c.name.ensures.text (omega arith) (within c.put_text-2.ensures c.name.ensures.short) in
    let told = within_then (within_then begun named) c.put_numbers.ensures in
    within_same refl (omega arith) (within_then told (within {n = 1} c.put_text-3.ensures (omega arith)))
