use Rattle.std.proofs.Common.{◌-◌, length, subst, sym, rules}
use Rattle.std.specs.Io.KnownBytes.{Consumes}
use Rattle.std.proofs.KnownBytes.{Consumes-trans}
use Rattle.printing.proofs.Reading.{read_on}
use Rattle.printing.proofs.files.read_all.Goals as goal

pub loop-done-preserved : goal.loop-done-preserved
loop-done-preserved g c =
    let buf = c.loop-done.buf in
    let done = c.loop-done.done in
    let e = read_on buf c.read_once.new.buf done (length buf - done) c.in_ok-n.n c.loop-done.invariant.0 (search rules) in
    (search rules, search rules, subst (Consumes _ _) (sym e) (Consumes-trans _ _ _ _ _ c.loop-done.invariant.2 c.in_ok-n.ensures.bytes))
