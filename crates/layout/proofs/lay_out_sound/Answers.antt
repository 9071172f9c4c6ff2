-- Where laying out ends decides rows 8 and 9; where neither refuses, it is the room that writing asks for.
use Rattle.std.proofs.Common.{ℕ, ap, sym, arith, ◌∙◌}
use Rattle.std.proofs.Math.ListN.{length-replicate}
use Rattle.laws.proofs.Exits.{exits}
use Rattle.records.specs.Blocks.{skip_records}
use Rattle.layout.specs.Answers.{LaysOutSound}
use Rattle.layout.proofs.Replies.{layable, passed_on, measured_as, over_period, InTime, room_refused, has_room, written}
use Rattle.layout.proofs.lay_out_sound.Goals as goal
use Rattle.layout.proofs.lay_out_sound.Goals.{After-skip_records}

-- neither row 7 nor row 8 refuses
timed : (c : After-skip_records) → InTime c.args.file.now c.args.rack c.in_ok-end.end c.skip_records.result
timed c = record {
  sound = c.requires.0;
  settings = layable c.requires.1 (sym c.short_window.ensures ∙ c.if-short_window.false);
  passed = (measured_as _ c.measure_file.ensures c.ok_or.ensures.value c.in_ok-end.was).passed;
  short = omega (arith, c.if-from-total.false);
  skips = c.skip_records.ensures ∙ ap skip_records (omega arith);
}

pub returns-in_err-end : goal.returns-in_err-end
returns-in_err-end c =
    exits (LaysOutSound c.args.file.now c.args.rack c.args.out.now c.args.out.now) c.from_residual.ensures.1
    (passed_on (layable c.requires.1 (sym c.short_window.ensures ∙ c.if-short_window.false)) _ _ _ _ c.measure_file.ensures c.ok_or.ensures.value c.in_err-end.was)

pub returns-then-from-total : goal.returns-then-from-total
returns-then-from-total c =
    over_period (layable c.requires.1 (sym c.short_window.ensures ∙ c.if-short_window.false))
    (measured_as _ c.measure_file.ensures c.ok_or.ensures.value c.in_ok-end.was).passed _ (omega (arith, c.if-from-total.true))

pub returns-then-no_room : goal.returns-then-no_room
returns-then-no_room c =
    room_refused (timed (goal.at.returns-then-no_room c).After-skip_records) _ (sym c.no_room.ensures ∙ c.if-no_room.true)

pub write_file-requires : goal.write_file-requires
write_file-requires c =
    has_room (timed (goal.at.write_file-requires c).After-skip_records) _ (sym c.no_room.ensures ∙ c.if-no_room.false)
    (length-replicate {A = ℕ} 1821 0) (measured_as _ c.measure_file.ensures c.ok_or.ensures.value c.in_ok-end.was)

pub returns : goal.returns
returns c =
    written (timed (goal.at.returns c).After-skip_records) _ (sym c.no_room.ensures ∙ c.if-no_room.false) _ _ (omega arith) c.write_file.ensures
