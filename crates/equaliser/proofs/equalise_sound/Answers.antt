-- The size decides rows 8 and 9; where neither refuses, it is the room that writing asks for.
use Rattle.std.proofs.Common.{sym, ◌∙◌, arith}
use Rattle.laws.proofs.Exits.{exits}
use Rattle.equaliser.specs.Answers.{EqualisesSound}
use Rattle.equaliser.proofs.Replies.{task_asks, over_period, small, lacks_room, has_room, written}
use Rattle.equaliser.proofs.equalise_sound.Goals as goal

pub measure_block-requires : goal.measure_block-requires
measure_block-requires c = task_asks c.requires

pub returns-in_err-whole : goal.returns-in_err-whole
returns-in_err-whole c =
    exits (EqualisesSound c.args.task.now c.args.rack.now c.args.out.now c.args.out.now) c.from_residual.ensures.1
    (over_period c.requires c.measure_block.ensures _ c.in_err-whole.ensures.value)

pub padded_records-requires : goal.padded_records-requires
padded_records-requires c = small c.requires c.measure_block.ensures c.in_ok-whole.ensures.value

pub returns-then-no_room : goal.returns-then-no_room
returns-then-no_room c =
    lacks_room c.requires c.measure_block.ensures c.in_ok-whole.ensures.value c.padded_records.ensures.0 _ (sym c.no_room.ensures ∙ c.if-no_room.true)

pub write_block-w-requires : goal.write_block-w-requires
write_block-w-requires c =
    has_room c.requires c.measure_block.ensures c.in_ok-whole.ensures.value c.padded_records.ensures.0 (omega arith) _
    (sym c.no_room.ensures ∙ c.if-no_room.false)

pub returns : goal.returns
returns c =
    written c.requires c.measure_block.ensures c.in_ok-whole.ensures.value c.padded_records.ensures.0 (omega arith) _
    (sym c.no_room.ensures ∙ c.if-no_room.false) _ c.write_block-w.ensures
