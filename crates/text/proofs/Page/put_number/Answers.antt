use Rattle.std.proofs.Common.{◌∙◌, arith}
use Rattle.text.proofs.{Digits.decimal_is, Digits.decimal_short, Pieces.put_same}
use Rattle.text.proofs.Page.put_number.Goals as goal

pub returns : goal.returns
returns c =
    let e = c.format.ensures.text ∙ decimal_is c.args.n (omega arith) in
    record { put = put_same e c.put_text.ensures; short = decimal_short c.args.n (omega arith) }
