use Rattle.std.proofs.Common.{replicate}
use Rattle.rehearsal.specs.Promises.{end_in}
use Rattle.rehearsal.proofs.SecondLaws.{stop_saved, stop_unsaved}
use Rattle.rehearsal.proofs.second.Second.stopped.Goals as goal

pub returns-then-stopped : goal.returns-then-stopped
returns-then-stopped c =
    let x = c.args.self in
    stop_saved (end_in x.first) x.total x.settings.now x.file.now x.inputs.now c.copy_from_slice.ensures.after (replicate 72 0) (replicate 16 0) c.args.stop
    c.in_ok-stopped.stopped c.in_ok-stopped.ensures c.if-stopped.true c.resumed.ensures

pub returns : goal.returns
returns c =
    let x = c.args.self in
    stop_unsaved (end_in x.first) x.total x.settings.now x.file.now x.inputs.now c.copy_from_slice.ensures.after (replicate 72 0) (replicate 16 0) c.args.stop
    c.in_ok-stopped.stopped c.in_ok-stopped.ensures c.if-stopped.false c.restarted.ensures
