use Rattle.std.proofs.Common.{arith}
use Rattle.text.proofs.Pieces.{within, within_then, within_same}
use Rattle.listing.specs.Lines.{lines_in}
use Rattle.printing.proofs.Rendering.{listed_text}
use Rattle.printing.proofs.render.put_listing.Goals as goal

pub returns : goal.returns
returns c =
    let a = c.args in
    let p = within_then (within_then c.put_lines.ensures c.put_number.ensures) (within {n = 5} c.put_text.ensures (omega arith)) in
    within_same (listed_text (lines_in a.laid.now a.starts.now 0 a.records) a.total) (omega arith) p
