use Rattle.std.proofs.Common.{◌+◌, ◌-◌, ◌∙◌, length, refl, arith, rules}
use Rattle.text.proofs.Pieces.{copied}
use Rattle.text.proofs.Page.put_text.Goals as goal

pub returns : goal.returns
returns c =
    let s = c.args.self.now in
    let text = c.args.text.now in
    record {
      page = copied text s.bytes.now s.len (s.len + length text - s.len) c.requires (omega arith) (c.copy_from_slice.ensures.after ∙ c.as_bytes.ensures.value);
      ends = refl;
      same_reference = refl;
      same_length = search rules;
    }
