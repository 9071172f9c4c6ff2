-- A record as the code has it, as the model has it.
use Rattle.model.specs.Records.{Rec, rec}
use Rattle.records.specs.declared.Record.{Record}

abbrev pub record_of : Record → Rec
record_of r = rec r.kind r.op r.target r.left r.value r.count
