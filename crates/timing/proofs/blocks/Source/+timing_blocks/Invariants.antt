-- The measure is the depth: a statement at a depth is timed within a sequence at that depth, and a block inside it one less deep.
use Rattle.std.proofs.Common.{◌-◌, ◌+◌, ◌*◌}
use Rattle.timing.proofs.Sums.{Counted}
use Rattle.timing.proofs.blocks.Source.+timing_blocks.Given as goal

abbrev pub decreases-sequence_time : goal.decreases-sequence_time
decreases-sequence_time l = 2 * l.depth + 1

abbrev pub decreases-statement_time : goal.decreases-statement_time
decreases-statement_time l = 2 * l.depth

abbrev pub invariant-sequence_time-loop-next : goal.invariant-sequence_time-loop-next
invariant-sequence_time-loop-next l = Counted l.self.file.now l.from l.self.to l.depth l.self.rack l.next l.ticks

abbrev pub decreases-sequence_time-loop-next : goal.decreases-sequence_time-loop-next
decreases-sequence_time-loop-next l = l.self.to - l.next
