-- The measure is three times the number of the records that are left: one that starts at the same record falls by its kind.
use Rattle.std.proofs.Common.{◌+◌, ◌*◌, ◌-◌}
use Rattle.records.specs.Records.{record_of}
use Rattle.running.specs.Promises.{Running}
use Rattle.running.proofs.RunningLoops.{Looping, spinning, turning}
use Rattle.running.proofs.blocks.Program.+running_records.Given as goal

abbrev pub decreases-run_loop : goal.decreases-run_loop
decreases-run_loop l = 3 * (5461 - l.i) + 1

abbrev pub decreases-run_records : goal.decreases-run_records
decreases-run_records l = 3 * (5461 - l.from) + 2

abbrev pub decreases-run_times : goal.decreases-run_times
decreases-run_times l = 3 * (5461 - l.i)

abbrev pub decreases-run_while : goal.decreases-run_while
decreases-run_while l = 3 * (5461 - l.i)

abbrev pub invariant-run_records-loop-at : goal.invariant-run_records-loop-at
invariant-run_records-loop-at l =
    Running l.self.file.now l.from l.to l.self.ends.now l.self.rack.now l.self.inputs.now l.self.limit l.tick l.initial.store l.store l.at.tick l.at.next

abbrev pub decreases-run_records-loop-at : goal.decreases-run_records-loop-at
decreases-run_records-loop-at l = l.to - l.at.next

abbrev pub invariant-run_times-loop : goal.invariant-run_times-loop
invariant-run_times-loop l =
    Looping l.self.file.now l.i l.self.ends.now (record_of l.r) l.self.rack.now l.self.inputs.now l.self.limit l.tick l.initial.store l.store l.at l.to l.r.count l.counter l.next
    (turning l.i)

abbrev pub invariant-run_while-loop : goal.invariant-run_while-loop
invariant-run_while-loop l =
    Looping l.self.file.now l.i l.self.ends.now (record_of l.r) l.self.rack.now l.self.inputs.now l.self.limit l.tick l.initial.store l.store l.at l.to l.r.count l.counter l.next
    (spinning l.i)
