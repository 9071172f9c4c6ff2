use Rattle.std.proofs.Common.{◌+◌, ◌-◌, ◌*◌}
use Rattle.layout.proofs.Measuring.{Measuring, MeasuringRounds}
use Rattle.layout.proofs.lent.Source.+measuring.Given as goal

abbrev pub decreases-measure_block : goal.decreases-measure_block
decreases-measure_block l = 6 * (l.self.now.to - l.i) + 4

abbrev pub decreases-measure_branch : goal.decreases-measure_branch
decreases-measure_branch l = 6 * (l.self.now.to - l.i) + 1

abbrev pub decreases-measure_inner : goal.decreases-measure_inner
decreases-measure_inner l = 6 * (l.self.now.to - l.i) + 2

abbrev pub decreases-measure_rounds : goal.decreases-measure_rounds
decreases-measure_rounds l = 6 * (l.self.now.to - l.i) + 1

abbrev pub decreases-measure_side : goal.decreases-measure_side
decreases-measure_side l = 6 * (l.self.now.to - l.i) + 5

abbrev pub invariant-measure_block-loop-next : goal.invariant-measure_block-loop-next
invariant-measure_block-loop-next l =
    Measuring l.self.file.now l.i l.self.to l.self.rack l.initial.clock.state l.state l.next l.initial.clock.place l.clock.place l.initial.meets l.meets

abbrev pub decreases-measure_block-loop-next : goal.decreases-measure_block-loop-next
decreases-measure_block-loop-next l = l.self.to - l.next

abbrev pub invariant-measure_rounds-loop-round : goal.invariant-measure_rounds-loop-round
invariant-measure_rounds-loop-round l =
    MeasuringRounds l.self.file.now l.i l.self.to l.self.rack l.initial.clock.state l.count l.clock.state l.next l._round l.initial.clock.place l.clock.place l.initial.meets l.meets
