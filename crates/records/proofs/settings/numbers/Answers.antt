-- The length tells the form.
use borrow.Author.Tests.{eq-eqb, ne_eqb}
use Rattle.model.specs.Settings.{settings_of}
use Rattle.records.proofs.settings.numbers.Goals as goal

pub returns-then-settings-eq-WIDE_LENGTH : goal.returns-then-settings-eq-WIDE_LENGTH
unfolding settings_of
returns-then-settings-eq-WIDE_LENGTH c = rw (eq-eqb _ _ c.if-settings-eq-WIDE_LENGTH.true) c.wide_numbers.ensures

pub returns : goal.returns
unfolding settings_of
returns c = rw (ne_eqb _ _ c.if-settings-eq-WIDE_LENGTH.false) c.narrow_numbers.ensures
