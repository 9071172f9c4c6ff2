use Rattle.std.proofs.Common.{◌≡◌, ℕ, ◌+◌, ◌<◌, ◌≤◌, Bool, true, false, List, sym, ◌∙◌, arith}
use Rattle.model.specs.Records.{kind_at}
use Rattle.reading.specs.Closing.{ClosingsFrom, opens_block, closes_block}
use Rattle.reading.specs.Ranges.{Fillable}
use Rattle.reading.proofs.Standing.{told}
use Rattle.reading.proofs.ClosingTable.{Opener, closing_end, closing_shut, closing_plain, first_early, closing_loop, second_early, closing_if}
use Rattle.reading.proofs.closings.closing_of.Goals as goal

pub returns-then-to-i : goal.returns-then-to-i
returns-then-to-i c = closing_end c.args.i c.requires.0 c.if-to-i.true

pub returns-then-closes : goal.returns-then-closes
returns-then-closes c =
    closing_shut c.args.i c.requires.0 (omega (arith, c.if-to-i.false)) (told closes_block c.kind_at-kind.ensures c.closes.ensures c.if-closes.true)

pub returns-then-not-opens : goal.returns-then-not-opens
returns-then-not-opens c =
    closing_plain c.args.i c.requires.2 (omega (arith, c.if-to-i.false)) (told closes_block c.kind_at-kind.ensures c.closes.ensures c.if-closes.false)
    (told opens_block c.kind_at-kind.ensures c.opens.ensures c.if-not-opens.true)

-- from the test that the record opens a block on
opener : {s : List ℕ} {i to : ℕ} {ends : List ℕ} {k : ℕ} {shut opened : Bool}
    → (Fillable s to ends) × (i ≤ to) × (ClosingsFrom s (i + 1) to ends) → i < to → k ≡ kind_at s i
    → shut ≡ closes_block k → shut ≡ false → opened ≡ opens_block k → opened ≡ true → Opener s i to ends
opener p early k c f o t = record {
  fillable = p.0;
  behind = p.2;
  inside = early;
  goes_on = told closes_block k c f;
  opens = told opens_block k o t;
}

pub bounds-ends-first : goal.bounds-ends-first
bounds-ends-first c =
    let w = opener c.requires c.if-to-i.false c.kind_at-kind.ensures c.closes.ensures c.if-closes.false c.opens.ensures c.if-not-opens.false in
    omega (arith, first_early w, w.fillable.room)

pub bounds-ends-second : goal.bounds-ends-second
bounds-ends-second c =
    let w = opener c.requires c.if-to-i.false c.kind_at-kind.ensures c.closes.ensures c.if-closes.false c.opens.ensures c.if-not-opens.false in
    omega (arith, second_early w (sym c.kind_at-kind.ensures ∙ c.if-is_if.true), w.fillable.room)

pub returns-then-is_if : goal.returns-then-is_if
returns-then-is_if c =
    closing_if
    (opener c.requires c.if-to-i.false c.kind_at-kind.ensures c.closes.ensures c.if-closes.false c.opens.ensures c.if-not-opens.false)
    (sym c.kind_at-kind.ensures ∙ c.if-is_if.true)

pub returns : goal.returns
returns c =
    closing_loop
    (opener c.requires c.if-to-i.false c.kind_at-kind.ensures c.closes.ensures c.if-closes.false c.opens.ensures c.if-not-opens.false)
    (λ e. c.if-is_if.false (c.kind_at-kind.ensures ∙ e))
