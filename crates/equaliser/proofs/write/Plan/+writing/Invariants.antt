-- The measure is the range of records that is left. What is laid is said for all settings with which the table may have been made.
use Rattle.std.proofs.Common.{◌-◌, ◌+◌, ◌*◌}
use Rattle.equaliser.specs.Written.{BlockFits}
use Rattle.equaliser.proofs.WrittenBlocks.{Writing}
use Rattle.equaliser.proofs.write.Plan.+writing.Given as goal

abbrev pub decreases-write_block : goal.decreases-write_block
decreases-write_block l = 4 * (l.self.now.to - l.from) + 3

abbrev pub decreases-write_branch : goal.decreases-write_branch
decreases-write_branch l = 4 * (l.self.now.to - l.i)

abbrev pub decreases-write_inner : goal.decreases-write_inner
decreases-write_inner l = 4 * (l.self.now.to - l.i) + 1

abbrev pub decreases-write_loop : goal.decreases-write_loop
decreases-write_loop l = 4 * (l.self.now.to - l.i)

abbrev pub decreases-write_statement : goal.decreases-write_statement
decreases-write_statement l = 4 * (l.self.now.to - l.i) + 2

abbrev pub invariant-write_block-loop-all : goal.invariant-write_block-loop-all
invariant-write_block-loop-all l = (F : BlockFits l.self.file.now l.from l.self.to l.pad l.self.pads.now l.initial.out) → Writing F l.out l.all.bytes l.all.wait l.all.next

abbrev pub decreases-write_block-loop-all : goal.decreases-write_block-loop-all
decreases-write_block-loop-all l = l.self.to - l.all.next
