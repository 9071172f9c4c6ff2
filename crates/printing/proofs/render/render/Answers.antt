use Rattle.std.proofs.Common.{length, ap, sym, arith}
use Rattle.model.specs.Listing.{printed, printed_text}
use Rattle.printing.proofs.Rendering.{text_of_refusal, listed_in, put_whole}
use Rattle.printing.proofs.render.render.Goals.{in-Ok, in-Err}
use Rattle.printing.proofs.render.render.Goals as goal

pub put_listing-requires : goal.put_listing-requires
put_listing-requires c =
    let m = listed_in c.args.settings.now c.args.task.now c.in-Ok.done c.in-Ok.ensures in
    record {
      file = omega (arith, m.inside, m.laid_room_is);
      starts = omega (arith, m.few, m.table_room);
      lines = omega (arith, m.few, ap length c.new-page.ensures.same, c.new-page.ensures.empty);
    }

pub returns : goal.returns
returns c =
    let s = c.args.settings.now in
    let task = c.args.task.now in
    let text = printed_text (printed s task) in
    let page = c.new-page.ensures in
    elim c.match-list_task.branch [
      | in-Ok w ↦
          let m = listed_in s task w.in-Ok.done w.in-Ok.ensures in
          rw w.page-is (put_whole text (ap printed_text (sym m.right)) page.empty page.same (omega (arith, m.few)) w.put_listing.ensures)
      | in-Err w ↦
          let e = text_of_refusal s task w.in-Err.x w.in-Err.ensures.0 in
          rw w.page-is (put_whole text e page.empty page.same (omega arith) w.put_refusal.ensures)
    ]
