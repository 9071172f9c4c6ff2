use Rattle.std.proofs.Common.{◌*◌, take}
use Rattle.model.specs.Listing.{spaced}
use Rattle.text.specs.Pieces.{PutWithin}
use Rattle.text.proofs.Page.put_spaced.Given as goal

abbrev pub invariant-loop-n : goal.invariant-loop-n
invariant-loop-n l = PutWithin (11 * l.n-index) (spaced (take l.n-index l.numbers)) l.initial.self l.self
