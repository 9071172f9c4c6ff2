use Rattle.std.proofs.Common.{◌+◌, ◌-◌, ◌*◌}
use Rattle.layout.proofs.WritingBlocks.{WritingBlock}
use Rattle.layout.proofs.WritingRounds.{WritingLoop}
use Rattle.layout.proofs.lent.Source.+writing.Given as goal

abbrev pub decreases-write_block : goal.decreases-write_block
decreases-write_block l = 5 * (l.self.now.to - l.i) + 3

abbrev pub decreases-write_branch : goal.decreases-write_branch
decreases-write_branch l = 5 * (l.self.now.to - l.i) + 1

abbrev pub decreases-write_rounds : goal.decreases-write_rounds
decreases-write_rounds l = 5 * (l.self.now.to - l.i) + 1

abbrev pub decreases-write_side : goal.decreases-write_side
decreases-write_side l = 5 * (l.self.now.to - l.i) + 4

abbrev pub decreases-write_statement : goal.decreases-write_statement
decreases-write_statement l = 5 * (l.self.now.to - l.i) + 2

abbrev pub invariant-write_block-loop-next : goal.invariant-write_block-loop-next
invariant-write_block-loop-next l = WritingBlock l.self.file.now l.i l.self.to l.self.rack l.at l.state l.next l.ifs l.k l.meets l.initial.out l.out

abbrev pub decreases-write_block-loop-next : goal.decreases-write_block-loop-next
decreases-write_block-loop-next l = l.self.to - l.next

abbrev pub invariant-write_rounds-loop-round : goal.invariant-write_rounds-loop-round
invariant-write_rounds-loop-round l =
    WritingLoop l.self.file.now l.i l.self.to l.self.rack l.from l.ifs l.meets l.initial.out l.r.count l.state l.next l._round l.k l.out
