-- The measure is three times the records left: a block at a place stands above a statement there, and that above an IF.
use Rattle.std.proofs.Common.{◌-◌, ◌+◌, ◌*◌}
use Rattle.listing.proofs.StartingBlocks.{Starting}
use Rattle.listing.proofs.starts.Source.+starting.Given as goal

abbrev pub decreases-start_block : goal.decreases-start_block
decreases-start_block l = 3 * (l.self.now.to - l.from) + 2

abbrev pub decreases-start_branch : goal.decreases-start_branch
decreases-start_branch l = 3 * (l.self.now.to - l.i)

abbrev pub decreases-start_statement : goal.decreases-start_statement
decreases-start_statement l = 3 * (l.self.now.to - l.i) + 1

abbrev pub invariant-start_block-loop-next : goal.invariant-start_block-loop-next
invariant-start_block-loop-next l = Starting l.self.file.now l.from l.self.to l.self.rack.now l.at l.initial.out l.out l.tick l.next

abbrev pub decreases-start_block-loop-next : goal.decreases-start_block-loop-next
decreases-start_block-loop-next l = l.self.to - l.next
