use Rattle.std.proofs.Common.{ap, arith, ◌∙◌}
use Rattle.records.specs.Blocks.{skip_records}
use Rattle.placing.proofs.Moves.{past_save, past_beat}
use Rattle.placing.proofs.clock.State.commanded.Goals as goal

pub returns-then-self-eq0 : goal.returns-then-self-eq0
returns-then-self-eq0 c = past_save c.requires _ _ (c.skip_records-skips.ensures ∙ ap skip_records (omega arith)) c.if-self-eq0.true c.counted.ensures

pub returns : goal.returns
returns c = past_beat c.requires _ _ (c.skip_records-skips.ensures ∙ ap skip_records (omega arith)) c.if-self-eq0.false c.counted-2.ensures
