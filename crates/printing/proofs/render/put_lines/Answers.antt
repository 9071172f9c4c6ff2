use Rattle.std.proofs.Common.{ap, ◌∙◌, ◌<◌, ◌/◌, ◌++◌, length, arith}
use Rattle.model.specs.declared.Line.{Line}
use Rattle.model.specs.Listing.{line_text, lines_text}
use Rattle.listing.specs.Lines.{lines_in}
use Rattle.text.proofs.Pieces.{within_then, within_same}
use Rattle.printing.proofs.Rendering.{lines_next, shown_line, there}
use Rattle.printing.proofs.render.put_lines.Goals.{in-Some, in_default}
use Rattle.printing.proofs.render.put_lines.Goals as goal

pub loop-i-preserved : goal.loop-i-preserved
loop-i-preserved c =
    let laid = c.args.laid.now in
    let table = c.args.starts.now in
    let i = c.loop-i.i in
    let in_file : i < length laid / 12 = omega (arith, c.requires.file) in
    let in_table : i < length table = omega (arith, c.requires.starts) in
    elim c.match-line_at.branch [
      | in-Some w ↦
          let e = shown_line laid table i c.line_at.ensures in_file in_table w.in-Some.is in
          let f = ap (λ (l : Line). lines_text (lines_in laid table 0 i) ++ line_text l) e ∙ lines_next laid table i in
          rw w.page-is (within_same f (omega arith) (within_then c.loop-i.invariant w.put_line.ensures))
      | in_default w ↦ absurd (cc (w.in_default.is, there laid table i c.line_at.ensures in_file in_table))
    ]
