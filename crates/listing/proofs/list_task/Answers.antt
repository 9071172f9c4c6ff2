use Rattle.std.proofs.Common.{refl, rules}
use Rattle.laws.proofs.Exits.{exits}
use Rattle.listing.proofs.Listings.{Lists, list_refused, list_decoded, list_entered, list_written}
use Rattle.listing.proofs.list_task.Goals as goal

pub returns-in_err-done : goal.returns-in_err-done
returns-in_err-done c =
    let a = c.args in
    exits (Lists a.settings.now a.task.now a.laid.now c.prepare.new.out a.starts.now a.starts.now) c.from_residual.ensures.1
    (list_refused a.settings.now a.task.now a.laid.now c.prepare.new.out (search rules) a.starts.now _ c.in_err-done.ensures)

pub returns-in_err-rack : goal.returns-in_err-rack
returns-in_err-rack c =
    let a = c.args in
    list_decoded a.settings.now a.task.now a.laid.now c.prepare.new.out (search rules) _ c.in_ok-done.ensures _ c.in_err-rack.ensures

pub start_block-requires : goal.start_block-requires
start_block-requires c =
    let a = c.args in
    list_entered a.settings.now a.task.now a.laid.now c.prepare.new.out (search rules) _ c.in_ok-done.ensures
    (c.in_ok-rack.ensures.settings _ refl) a.starts.now (search rules)

pub returns : goal.returns
returns c =
    let a = c.args in
    list_written a.settings.now a.task.now a.laid.now c.prepare.new.out (search rules) _ c.in_ok-done.ensures
    (c.in_ok-rack.ensures.settings _ refl) a.starts.now (search rules) c.start_block.ensures
