use Rattle.std.proofs.Common.{◌≡◌, ℕ, ◌+◌, ◌<◌, Bool, true, List, Option, sym, ◌∙◌, subst}
use Rattle.laws.proofs.Exits.{exits_none}
use Rattle.model.specs.Records.{record_at}
use Rattle.records.specs.declared.Record.{Record}
use Rattle.records.specs.Records.{record_of}
use Rattle.reading.specs.Closing.{closes_block, opens_block}
use Rattle.reading.proofs.Standing.{told}
use Rattle.timing.specs.Blocks.{StatementTimes, SequenceTimes}
use Rattle.timing.proofs.Statements.{Opens, up_to_next, first_over, first_late, loop_times, second_over, second_late, branch_times}
use Rattle.timing.proofs.Sums.{counted_start, counted_closed, counted_all, counted_over, counted_next, counted_past}
use Rattle.timing.proofs.blocks.Source.+timing_blocks.Goals as goal

pub sequence_time-loop-next-init : goal.sequence_time-loop-next-init
sequence_time-loop-next-init t c = counted_start c.requires

pub sequence_time-returns-then-closes : goal.sequence_time-returns-then-closes
sequence_time-returns-then-closes t c = counted_closed c.loop-next.invariant (told closes_block c.kind_at.ensures c.closes.ensures c.if-closes.true)

pub sequence_time-returns-in_err-one : goal.sequence_time-returns-in_err-one
sequence_time-returns-in_err-one t c =
    exits_none (SequenceTimes c.args.self.now.file.now c.args.from c.args.self.now.to c.args.depth c.args.self.now.rack) c.from_residual.ensures
    (counted_over c.loop-next.invariant c.loop-next-test.true (told closes_block c.kind_at.ensures c.closes.ensures c.if-closes.false) c.in_err-one.ensures)

pub sequence_time-returns-then-period-ticks : goal.sequence_time-returns-then-period-ticks
sequence_time-returns-then-period-ticks t c =
    counted_past c.loop-next.invariant c.loop-next-test.true (told closes_block c.kind_at.ensures c.closes.ensures c.if-closes.false) c.in_ok-one.ensures
    c.if-period-ticks.true

pub sequence_time-loop-next-preserved : goal.sequence_time-loop-next-preserved
sequence_time-loop-next-preserved t c =
    counted_next c.loop-next.invariant c.loop-next-test.true (told closes_block c.kind_at.ensures c.closes.ensures c.if-closes.false) c.in_ok-one.ensures
    c.if-period-ticks.false

pub sequence_time-returns : goal.sequence_time-returns
sequence_time-returns t c = counted_all c.loop-next.invariant c.loop-next-test.false

-- the record opens a block
open_there : {s : List ℕ} {i to : ℕ} {r : Record} {opened : Bool} → i < to → record_of r ≡ record_at s i → opened ≡ opens_block r.kind → opened ≡ true → Opens s i to r
open_there early same o t = record { early = early; same = same; opens = sym o ∙ t }

pub statement_time-returns-in_err-first : goal.statement_time-returns-in_err-first
statement_time-returns-in_err-first t c =
    exits_none (StatementTimes c.args.self.now.file.now c.args.i c.args.self.now.to c.args.depth c.args.self.now.rack) c.from_residual-in_err-first.ensures
    (first_over (open_there c.requires.1 c.record_at-r.ensures c.opens.ensures c.if-not-opens.false) c.in_err-first.ensures)

pub statement_time-returns-then-self-first : goal.statement_time-returns-then-self-first
statement_time-returns-then-self-first t c =
    first_late (open_there c.requires.1 c.record_at-r.ensures c.opens.ensures c.if-not-opens.false) c.in_ok-first.ensures c.if-self-first.true

pub statement_time-returns-in_err-ticks-2 : goal.statement_time-returns-in_err-ticks-2
statement_time-returns-in_err-ticks-2 t c =
    let P = StatementTimes c.args.self.now.file.now c.args.i c.args.self.now.to c.args.depth c.args.self.now.rack in
    let o = open_there c.requires.1 c.record_at-r.ensures c.opens.ensures c.if-not-opens.false in
    exits_none P c.from_residual-in_err-ticks-2.ensures
    (subst (λ (z : Option ℕ). P (up_to_next z (c.in_ok-first.first.next + 1))) c.in_err-ticks-2.was
    (loop_times o c.in_ok-first.ensures _ c.if-self-first.false c.if-r-ne-IF.true c.loop_time.ensures))

pub statement_time-returns-then-r-ne-IF : goal.statement_time-returns-then-r-ne-IF
statement_time-returns-then-r-ne-IF t c =
    let P = StatementTimes c.args.self.now.file.now c.args.i c.args.self.now.to c.args.depth c.args.self.now.rack in
    let o = open_there c.requires.1 c.record_at-r.ensures c.opens.ensures c.if-not-opens.false in
    subst (λ (z : Option ℕ). P (up_to_next z (c.in_ok-first.first.next + 1))) c.in_ok-ticks-2.was
    (loop_times o c.in_ok-first.ensures _ c.if-self-first.false c.if-r-ne-IF.true c.loop_time.ensures)

pub statement_time-returns-in_err-second : goal.statement_time-returns-in_err-second
statement_time-returns-in_err-second t c =
    exits_none (StatementTimes c.args.self.now.file.now c.args.i c.args.self.now.to c.args.depth c.args.self.now.rack) c.from_residual-in_err-second.ensures
    (second_over (open_there c.requires.1 c.record_at-r.ensures c.opens.ensures c.if-not-opens.false) c.in_ok-first.ensures c.if-r-ne-IF.false
    c.in_err-second.ensures)

pub statement_time-returns-then-self-second : goal.statement_time-returns-then-self-second
statement_time-returns-then-self-second t c =
    second_late (open_there c.requires.1 c.record_at-r.ensures c.opens.ensures c.if-not-opens.false) c.in_ok-first.ensures c.if-r-ne-IF.false
    c.in_ok-second.ensures c.if-self-second.true

pub statement_time-returns-in_err-ticks-3 : goal.statement_time-returns-in_err-ticks-3
statement_time-returns-in_err-ticks-3 t c =
    let P = StatementTimes c.args.self.now.file.now c.args.i c.args.self.now.to c.args.depth c.args.self.now.rack in
    let o = open_there c.requires.1 c.record_at-r.ensures c.opens.ensures c.if-not-opens.false in
    exits_none P c.from_residual-in_err-ticks-3.ensures
    (subst (λ (z : Option ℕ). P (up_to_next z (c.in_ok-second.second.next + 1))) c.in_err-ticks-3.was
    (branch_times o c.in_ok-first.ensures c.if-r-ne-IF.false c.in_ok-second.ensures _ c.if-self-second.false c.branch_time.ensures))

pub statement_time-returns : goal.statement_time-returns
statement_time-returns t c =
    let P = StatementTimes c.args.self.now.file.now c.args.i c.args.self.now.to c.args.depth c.args.self.now.rack in
    let o = open_there c.requires.1 c.record_at-r.ensures c.opens.ensures c.if-not-opens.false in
    subst (λ (z : Option ℕ). P (up_to_next z (c.in_ok-second.second.next + 1))) c.in_ok-ticks-3.was
    (branch_times o c.in_ok-first.ensures c.if-r-ne-IF.false c.in_ok-second.ensures _ c.if-self-second.false c.branch_time.ensures)
