use Rattle.std.proofs.Common.{arith}
use Rattle.text.proofs.Pieces.{within, within_then, within_same}
use Rattle.printing.proofs.Rendering.{refused_text}
use Rattle.printing.proofs.render.put_refusal.Goals as goal

pub returns : goal.returns
returns c =
    let p = within_then (within {n = 8} c.put_text.ensures (omega arith)) c.put_number.ensures in
    within_same (refused_text c.from.ensures.0) (omega arith) (within_then p (within {n = 1} c.put_text-2.ensures (omega arith)))
