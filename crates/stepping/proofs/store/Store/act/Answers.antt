use Rattle.std.proofs.Common.{◌∙◌, arith}
use Rattle.records.specs.Records.{record_of}
use Rattle.stepping.proofs.StepLaws.{set_target, fits_set, fits_check, fits_read, fits_write}
use Rattle.stepping.proofs.store.Store.act.Goals as goal

pub set_value-x-requires : goal.set_value-x-requires
set_value-x-requires c =
    fits_set (record_of c.args.r) (c.requires.3 ∙ c.in-2.is) c.requires.1

pub assign-requires : goal.assign-requires
assign-requires c =
    let r = record_of c.args.r in
    let l = set_target r (fits_set r (c.requires.3 ∙ c.in-2.is) c.requires.1) in
    omega arith

pub bounds-inputs-left : goal.bounds-inputs-left
bounds-inputs-left c =
    let l = fits_read (record_of c.args.r) (c.requires.3 ∙ c.in-3.is) c.requires.1 in
    omega arith

pub assign-requires-in-3 : goal.assign-requires-in-3
assign-requires-in-3 c =
    let l = fits_read (record_of c.args.r) (c.requires.3 ∙ c.in-3.is) c.requires.1 in
    omega arith

pub variable-x-requires : goal.variable-x-requires
variable-x-requires c =
    let l = fits_write (record_of c.args.r) (c.requires.3 ∙ c.in-4.is) c.requires.1 in
    omega arith

pub output-requires : goal.output-requires
output-requires c =
    let l = fits_write (record_of c.args.r) (c.requires.3 ∙ c.in-4.is) c.requires.1 in
    omega arith

pub test_holds-requires : goal.test_holds-requires
test_holds-requires c =
    fits_check (record_of c.args.r) (c.requires.3 ∙ c.in-10.is) c.requires.1
