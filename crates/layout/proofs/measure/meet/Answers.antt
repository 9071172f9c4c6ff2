use Rattle.std.proofs.Common.{sym, subst}
use Rattle.layout.specs.Measured.{Meets}
use Rattle.layout.proofs.Meeting.{first_early, second_early}
use Rattle.layout.proofs.measure.meet.Goals as goal

pub returns-then-one-two : goal.returns-then-one-two
returns-then-one-two c =
    subst (Meets _ _ _) (sym c.met.ensures) (first_early c.requires c.back.ensures c.if-one-two.true c.fill_count.ensures)

pub returns : goal.returns
returns c = subst (Meets _ _ _) (sym c.met-2.ensures) (second_early c.requires c.if-one-two.false c.fill_count-2.ensures)
