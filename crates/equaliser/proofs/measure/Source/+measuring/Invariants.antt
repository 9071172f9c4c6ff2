-- The measure is the range of records that is left: a block inside a statement starts after the statement's record.
use Rattle.std.proofs.Common.{◌-◌, ◌+◌, ◌*◌}
use Rattle.equaliser.proofs.Measured.{Measured}
use Rattle.equaliser.proofs.measure.Source.+measuring.Given as goal

abbrev pub decreases-measure_block : goal.decreases-measure_block
decreases-measure_block l = 4 * (l.self.now.to - l.from) + 3

abbrev pub decreases-measure_branch : goal.decreases-measure_branch
decreases-measure_branch l = 4 * (l.self.now.to - l.i)

abbrev pub decreases-measure_loop : goal.decreases-measure_loop
decreases-measure_loop l = 4 * (l.self.now.to - l.i)

abbrev pub decreases-measure_statement : goal.decreases-measure_statement
decreases-measure_statement l = 4 * (l.self.now.to - l.i) + 2

abbrev pub invariant-measure_block-loop-all : goal.invariant-measure_block-loop-all
invariant-measure_block-loop-all l = Measured l.self.file.now l.from l.self.to l.self.rack.now l.initial.pads l.pads l.all

abbrev pub decreases-measure_block-loop-all : goal.decreases-measure_block-loop-all
decreases-measure_block-loop-all l = l.self.to - l.all.next
