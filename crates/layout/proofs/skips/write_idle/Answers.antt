use Rattle.std.proofs.Common.{arith}
use Rattle.placing.proofs.Writing.{writing_at}
use Rattle.layout.proofs.IdleLoops.{skips_laying, check_left, idle_check_fits, idle_laid}
use Rattle.layout.proofs.skips.write_idle.Goals as goal

pub slice_bounds-put_step-count : goal.slice_bounds-put_step-count
slice_bounds-put_step-count c =
    rw c.bytes_between-at.ensures (writing_at (check_left (c.requires.check c.if-r-eq-SKIP.false) c.put_skips-s.ensures))

pub slice_bounds-put_step-start : goal.slice_bounds-put_step-start
slice_bounds-put_step-start c =
    rw c.bytes_between-at.ensures (writing_at (check_left (c.requires.check c.if-r-eq-SKIP.false) c.put_skips-s.ensures))

pub put_step-requires : goal.put_step-requires
put_step-requires c =
    let F = c.requires.check c.if-r-eq-SKIP.false in
    let L = c.put_skips-s.ensures in
    let y = skips_laying F L in
    (y, omega arith, omega (arith, y.settings.fits.positive.set_lasts), idle_check_fits F L c.check_of.ensures c.bytes_between-at.ensures)

pub returns : goal.returns
returns c =
    let no = c.if-r-eq-SKIP.false in
    record {
      skips = λ h. absurd (no h);
      check = λ h. idle_laid (c.requires.check no) c.put_skips-s.ensures c.check_of.ensures c.bytes_between-at.ensures c.put_step.ensures;
    }
