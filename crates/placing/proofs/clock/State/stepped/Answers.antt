use Rattle.std.proofs.Common.{ap, arith, ◌∙◌}
use Rattle.records.specs.Blocks.{skip_records}
use Rattle.placing.proofs.{Ticking.before_short, Moves.stepped_on}
use Rattle.placing.proofs.clock.State.stepped.Goals as goal

pub overflow_add-result : goal.overflow_add-result
overflow_add-result c = omega (arith, c.readied-s.ensures.after.tick, before_short c.args.rack.now c.args.self.tick c.args.d c.requires.0.settings)

pub returns : goal.returns
returns c = stepped_on _ _ _ c.readied-s.ensures (c.skip_records.ensures ∙ ap skip_records (omega arith)) c.counted.ensures
