-- Three pieces: the buffer is lent whole to the first, and what is left of it to each of the others. What is laid by then is said once.
use Rattle.std.proofs.Common.{◌+◌, arith}
use Rattle.model.specs.{Trees.file_tree, Layout.layout}
use Rattle.records.specs.Blocks.{block_bytes}
use Rattle.records.proofs.Over.{Part, back, part_at, part_room, part_fits_last, part_last}
use Rattle.placing.specs.Placed.{tail_bytes}
use Rattle.layout.proofs.Whole.{after_opening, start_fits, start_part, block_fits, counted, tail_part, tail_laying}
use Rattle.layout.proofs.write.write_file.Goals as goal
use Rattle.layout.proofs.write.write_file.Goals.{After-bytes_between}

-- the commands of tick 0 and the block are laid
blocked : (c : After-bytes_between)
    → Part (block_bytes (layout c.args.rack.now (file_tree c.args.file.now))) (tail_bytes c.args.rack.now c.write_block-e.result.state) c.args.out.now
    (back c.put_commands-at.new.out c.put_commands-at.result c.write_block-e.new.out) (c.put_commands-at.result + c.bytes_between.result)
blocked c =
    let opened = after_opening c.requires.settings c.commanded-opened.ensures.0 in
    let begun = start_part c.requires c.put_commands-at.ensures in
    tail_part c.requires opened begun c.write_block-e.ensures c.bytes_between.ensures

pub put_commands-at-requires : goal.put_commands-at-requires
put_commands-at-requires c = start_fits c.requires

pub write_block-e-requires : goal.write_block-e-requires
write_block-e-requires c =
    let opened = after_opening c.requires.settings c.commanded-opened.ensures.0 in
    block_fits c.requires opened (start_part c.requires c.put_commands-at.ensures)

pub bytes_between-requires : goal.bytes_between-requires
bytes_between-requires c =
    let opened = after_opening c.requires.settings c.commanded-opened.ensures.0 in
    counted c.requires opened (start_part c.requires c.put_commands-at.ensures) c.write_block-e.ensures

pub overflow_add-tail : goal.overflow_add-tail
overflow_add-tail c = omega (arith, part_room (blocked c), c.well_formed.1.1.1.0.0)

pub slice_bounds-put_tail-count : goal.slice_bounds-put_tail-count
slice_bounds-put_tail-count c = part_at (blocked c)

pub slice_bounds-put_tail-start : goal.slice_bounds-put_tail-start
slice_bounds-put_tail-start c = part_at (blocked c)

pub put_tail-requires : goal.put_tail-requires
put_tail-requires c =
    let opened = after_opening c.requires.settings c.commanded-opened.ensures.0 in
    let begun = start_part c.requires c.put_commands-at.ensures in
    let t = tail_laying c.requires opened begun c.write_block-e.ensures in
    (t.0, t.1, part_fits_last (blocked (goal.at.put_tail-requires c).After-bytes_between))

pub returns : goal.returns
returns c = part_last (blocked (goal.at.returns c).After-bytes_between) c.put_tail.ensures
