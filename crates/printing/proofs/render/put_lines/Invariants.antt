use Rattle.std.proofs.Common.{◌*◌}
use Rattle.model.specs.Listing.{lines_text}
use Rattle.listing.specs.Lines.{lines_in}
use Rattle.text.specs.Pieces.{PutWithin}
use Rattle.printing.proofs.render.put_lines.Given as goal

abbrev pub invariant-loop-i : goal.invariant-loop-i
invariant-loop-i l = PutWithin (64 * l.i) (lines_text (lines_in l.laid l.starts 0 l.i)) l.initial.page l.page
