use Rattle.std.proofs.Common.{◌<◌, ◌≤◌, ◌⊎◌, inl, inr, sym, ◌∙◌, arith}
use Rattle.model.specs.Refusals.{fields_fit}
use Rattle.records.specs.Records.{record_of}
use Rattle.reading.proofs.KindTests.{test_kind, loop_kind, port_kind, bare_kind}
use Rattle.reading.proofs.fields.fields_fit.Goals as goal
use Rattle.reading.proofs.fields.fields_fit.Goals.{in_default-via-then-kind-lt1, in_default-via-else-kind-lt1+else-kind-lt5}

pub returns-in-1 : goal.returns-in-1
unfolding fields_fit
returns-in-1 c = rw c.in-1.is c.skip_fits.ensures

pub returns-in-2 : goal.returns-in-2
unfolding fields_fit
returns-in-2 c = rw c.in-2.is c.set_fits.ensures

pub returns-in-5 : goal.returns-in-5
returns-in-5 c = test_kind (record_of c.args.r) _ c.in-5.is c.test_fits.ensures

pub returns-in-7 : goal.returns-in-7
returns-in-7 c = loop_kind (record_of c.args.r) _ c.in-7.is c.test_fits-in-7.ensures

pub returns-in-11 : goal.returns-in-11
unfolding fields_fit
returns-in-11 c = rw c.in-11.is c.beat_fits.ensures

-- READ and WRITE, and the kinds that no arm names, are told apart by their range
pub returns-in-3 : goal.returns-in-3
returns-in-3 c =
    c.port_fits.ensures ∙ sym (port_kind (record_of c.args.r) (omega arith) (omega arith) (λ e. omega arith) (λ e. omega arith))

pub returns-in_default : goal.returns-in_default
returns-in_default c =
    let far : (c.args.r.kind < 1) ⊎ (5 ≤ c.args.r.kind) =
    elim c.in_default.branch [
      | in_default-via-then-kind-lt1 w ↦ inl (omega arith)
      | in_default-via-else-kind-lt1+else-kind-lt5 w ↦ inr (omega arith)
    ] in
    c.bare_fits.ensures
    ∙ sym (bare_kind (record_of c.args.r) (λ e. omega arith) (λ e. omega arith) (λ e. omega arith) (λ e. omega arith) (λ e. omega arith) far)
