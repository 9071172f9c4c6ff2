use Rattle.std.proofs.Common.{◌-◌}
use Rattle.running.specs.Promises.{Running}
use Rattle.running.proofs.blocks.Program.run_steps.Given as goal

abbrev pub invariant-loop-at : goal.invariant-loop-at
invariant-loop-at l =
    Running l.self.file.now l.from l.to l.self.ends.now l.self.rack.now l.self.inputs.now l.self.limit l.tick l.initial.store l.store l.at.tick l.at.next

abbrev pub decreases-loop-at : goal.decreases-loop-at
decreases-loop-at l = l.to - l.at.next
