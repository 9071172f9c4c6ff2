use Rattle.std.proofs.Common.{sym, ◌∙◌, arith}
use Rattle.reading.proofs.Scanning.{kind_refused, field_refused, structure_refused, deep_refused, goes_on}
use Rattle.reading.proofs.scan.check_record.Goals as goal

pub returns-then-not-kind_fits : goal.returns-then-not-kind_fits
returns-then-not-kind_fits c = kind_refused (cc)

pub returns-then-not-fields_fit : goal.returns-then-not-fields_fit
returns-then-not-fields_fit c = field_refused (cc) (cc)

pub returns-in_default : goal.returns-in_default
returns-in_default c = structure_refused (cc) (cc) (λ os e. sym c.in_default.is ∙ c.nest.ensures os e)

pub returns-then-limits_of-next : goal.returns-then-limits_of-next
returns-then-limits_of-next c =
    deep_refused (cc) (cc) (λ os e. sym c.in-Some.is ∙ c.nest.ensures os e) (omega (arith, c.limits_of.ensures.1))

pub returns : goal.returns
returns c = goes_on (cc) (cc) (λ os e. sym c.in-Some.is ∙ c.nest.ensures os e) (omega (arith, c.limits_of.ensures.1))
