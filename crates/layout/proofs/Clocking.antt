-- Measuring on a lent clock, turn by turn: what each turn asks for, and what is answered once it is given up.
use Prim.Native.Nat.{ℕ, ◌+◌, ◌≤◌, ◌<◌, min}
use native.Mathlib.Omega.{arith}
use mathlib.Core.Path.{◌≡◌, refl, ap, sym, subst, ◌∙◌}
use mathlib.Core.Bool.{Bool, true, false, ◌||◌}
use mathlib.Core.{Logic.⊎_elim, List.List}
use lib.Dec.{eqb}
use borrow.Author.Tests.{eqb-true, eqb-false}
use Rattle.model.specs.declared.Settings.{Settings}
use Rattle.model.specs.Records.{Rec, kind_at, record_at, SKIP, IF, TIMES}
use Rattle.model.specs.Trees.{size}
use Rattle.laws.proofs.Shapes.{or_cases, neither}
use Rattle.records.specs.declared.Record.{Record}
use Rattle.records.specs.Records.{record_of}
use Rattle.reading.specs.{Closing.closes_block, Ranges.first_part, Ranges.second_part}
use Rattle.reading.proofs.Walking.{count_there}
use Rattle.placing.specs.declared.clock.State.{State}
use Rattle.placing.specs.States.{Stepped, back_to}
use Rattle.layout.specs.declared.measure.Passage.{Passage}
use Rattle.layout.specs.Measured.{Meeting, Meets, Entered, Statement, BlockPassed, StatementPassed}
use Rattle.layout.specs.{Meetings.Noting, Meetings.BlockMeasured, Meetings.StatementMeasured}
use Rattle.layout.specs.Clocked.{StepStarts, StepEnds, BlockLate, StatementLate}
use Rattle.layout.proofs.Passing.{too_late, passed_late, statement_next, passing_on}
use Rattle.layout.proofs.{PassingRounds.Loop, PassingBranches.Tested, PassingSteps.step_short}
use Rattle.layout.proofs.PassingRounds as loops
use Rattle.layout.proofs.PassingBranches as ifs
use Rattle.layout.proofs.Measuring.{block_late, statement_late, Measuring, measuring_few, measuring_late, measuring_next}
use Rattle.layout.proofs.Measuring.{skip_measured, act_measured, MeasuringRounds, loop_start, loop_late, branch_measured}

-- what a record's kind says of the file
pub kinds_told : {x : Record} {y : Rec} {o : Bool} → record_of x ≡ y → o ≡ (eqb x.kind IF || eqb x.kind TIMES) → o ≡ true → (eqb y.kind IF || eqb y.kind TIMES) ≡ true
kinds_told e f h = ap (λ (z : Rec). eqb z.kind IF || eqb z.kind TIMES) (sym e) ∙ sym f ∙ h

-- GIVEN UP

-- a state above P
abbrev over : Settings → Passage
over σ = record { state = record { tick = σ.period + 1; ticks_left = 0; windows_left = 0; wait = 0; records = 0 }; next = 0; ifs = 0 }

over_late : (σ : Settings) → σ.period < (over σ).state.tick
over_late σ = omega arith

module _ {s : List ℕ} {i to : ℕ} {σ : Settings} {at : State} {r : Passage} where
  block_gives_up : BlockPassed s i to σ at r → σ.period < r.state.tick → BlockLate s i to σ at
  block_gives_up P h = record { late = λ b B. too_late (P.right b B) h }

  statement_gives_up : StatementPassed s i to σ at r → σ.period < r.state.tick → StatementLate s i to σ at
  statement_gives_up P h = record { late = λ b B. too_late (P.right b B) h }

-- then what is above P is as good as any answer
block_over : {s : List ℕ} {i to : ℕ} {σ : Settings} {at : State} → BlockLate s i to σ at → BlockPassed s i to σ at (over σ)
block_over {σ = σ} L = record { right = λ b B. passed_late (L.late b B) (over_late σ) }

statement_over : {s : List ℕ} {i to : ℕ} {σ : Settings} {at : State} → StatementLate s i to σ at → StatementPassed s i to σ at (over σ)
statement_over {σ = σ} L = record { right = λ b B. passed_late (L.late b B) (over_late σ) }

-- A BLOCK

module _ {s : List ℕ} {from to : ℕ} {σ : Settings} {at state : State} {next k n : ℕ} {old new : List ℕ} (M : Measuring s from to σ at state next k n old new) where
  pub within : state.tick ≤ σ.period
  within = M.passing.ready.laying.within

  module _ (l : next < to) (c : closes_block (kind_at s next) ≡ false) where
    pub inner_starts : Statement s next to σ state
    inner_starts = statement_next M.passing l c

    pub inner_gives_up : StatementLate s next to σ state → BlockLate s from to σ at
    inner_gives_up L =
        block_gives_up (measuring_late M l c (statement_late {k = n} {old = new} {new = new} (statement_over L) (over_late σ)) (over_late σ)).passed (over_late σ)

    pub inner_on : {table : List ℕ} {r : Passage} → (StatementMeasured s next to σ state n new table r) × (r.state.tick ≤ σ.period) → next < r.next
    inner_on S = passing_on M.passing l c S.0.passed S.1

    -- any other is a step
    module _ {x : Record} (e : record_of x ≡ record_at s next) (f : (eqb x.kind IF || eqb x.kind TIMES) ≡ false) where
      no_if : x.kind ≡ IF → ⊥
      no_if h = eqb-false x.kind IF (neither (eqb x.kind IF) (eqb x.kind TIMES) f).0 h

      no_times : x.kind ≡ TIMES → ⊥
      no_times h = eqb-false x.kind TIMES (neither (eqb x.kind IF) (eqb x.kind TIMES) f).1 h

      pub step_starts : StepStarts σ (record_of x) state
      step_starts = record { laying = M.passing.ready.laying; fits = λ ne. step_short inner_starts e ne no_if no_times refl }

      module _ {r : State} (E : StepEnds σ (record_of x) state r) where
        stepped : StatementMeasured s next to σ state n new new (record { state = r; next = next + 1; ifs = n })
        stepped = go (eqb x.kind SKIP) refl
          where
            go : (o : Bool) → eqb x.kind SKIP ≡ o → StatementMeasured s next to σ state n new new (record { state = r; next = next + 1; ifs = n })
            go true y = let h = eqb-true x.kind SKIP y in skip_measured inner_starts (measuring_few M) e h (E.skips h)
            go false y = let ne = eqb-false x.kind SKIP y in act_measured inner_starts (measuring_few M) e ne no_if no_times refl (E.steps ne)

        pub step_gives_up : σ.period < r.tick → BlockLate s from to σ at
        step_gives_up h = block_gives_up (measuring_late M l c stepped h).passed h

        pub step_next : {y : State} → (y ≡ r) × (r.tick ≤ σ.period) → Measuring s from to σ at y (next + 1) k n old new
        step_next q = subst (λ (z : State). Measuring s from to σ at z (next + 1) k n old new) (sym q.0) (measuring_next M l c stepped q.1)

-- A STATEMENT

module _ {s : List ℕ} {i to : ℕ} {σ : Settings} {from : State} {p m n : ℕ} {old new : List ℕ} {r : State}
    (S : StatementMeasured s i to σ from p old new (record { state = r; next = m; ifs = n })) where
  pub statement_up : σ.period < r.tick → StatementLate s i to σ from
  statement_up h = statement_gives_up S.passed h

  pub statement_done : {y : State} → (y ≡ r) × (r.tick ≤ σ.period)
      → (StatementMeasured s i to σ from p old new (record { state = y; next = m; ifs = n })) × (y.tick ≤ σ.period)
  statement_done q = (
    subst (λ (z : State). StatementMeasured s i to σ from p old new (record { state = z; next = m; ifs = n })) (sym q.0) S,
    omega (arith, ap (λ (z : State). z.tick) q.0, q.1),
  )

-- A LOOP

module _ {s : List ℕ} {i to : ℕ} {σ : Settings} {from : State} {last : ℕ} where
  pub rounds_start : {k : ℕ} {table : List ℕ} (S : Statement s i to σ from) → kind_at s i ≡ TIMES → last ≡ (record_at s i).count → k ≤ 1821
      → MeasuringRounds s i to σ from last from (i + 1) 0 k k table table
  rounds_start S k e few =
      let O : Loop s i to σ from last = record { statement = S; kind = k; count_is = e } in
      loop_start (record { loop = O; turn = loops.rounding_start O }) few

  module _ {state : State} {next round k n : ℕ} {old new : List ℕ} (M : MeasuringRounds s i to σ from last state next round k n old new) where
    pub body_entered : Entered s (i + 1) to σ state
    body_entered = loops.body_entered M.passing.turn

    pub rounds_give_up : round < last → BlockLate s (i + 1) to σ state → StatementLate s i to σ from
    rounds_give_up l L =
        statement_gives_up (loop_late M l (block_late {k = n} {old = new} {new = new} (block_over L) (over_late σ)) (over_late σ)).passed (over_late σ)

-- one of the two
other_kind : (k : ℕ) → (eqb k IF || eqb k TIMES) ≡ true → (k ≡ IF → ⊥) → k ≡ TIMES
other_kind k h ne = ⊎_elim (λ e. absurd (ne (eqb-true k IF e))) (λ e. eqb-true k TIMES e) (or_cases (eqb k IF) (eqb k TIMES) h)

-- the loop, where it is no IF
pub loop_there : {s : List ℕ} {i to : ℕ} {σ : Settings} {from : State} {x : Record} (S : Statement s i to σ from)
    → (eqb (kind_at s i) IF || eqb (kind_at s i) TIMES) ≡ true → record_of x ≡ record_at s i → (x.kind ≡ IF → ⊥) → Loop s i to σ from x.count
loop_there S k e other = record {
  statement = S;
  kind = other_kind _ k (λ h. other (ap (λ (y : Rec). y.kind) e ∙ h));
  count_is = count_there S.here e;
}

-- AN IF

module _ {s : List ℕ} {i to : ℕ} {σ : Settings} {from : State} (S : Statement s i to σ from) (k : kind_at s i ≡ IF) {x : State} (T : Stepped σ from 1 x) where
  abbrev J : Tested s i to σ from x
  J = record { statement = S; kind = k; stepped = T }

  pub test_up : σ.period < x.tick → StatementLate s i to σ from
  test_up h = statement_gives_up (ifs.test_late J {m = 0} h) h

  module _ {test : State} (q : (test ≡ x) × (x.tick ≤ σ.period)) where
    abbrev I : Tested s i to σ from test
    I = subst (Tested s i to σ from) (sym q.0) J

    in_time : test.tick ≤ σ.period
    in_time = omega (arith, ap (λ (z : State). z.tick) q.0, q.1)

    pub one_entered : Entered s (i + 1) to σ test
    one_entered = ifs.one_entered I in_time

    pub one_up : BlockLate s (i + 1) to σ test → StatementLate s i to σ from
    one_up L = statement_gives_up (ifs.one_late I in_time (block_over L) (over_late σ)) (over_late σ)

    module _ {m : ℕ} {old mid : List ℕ} {a : Passage} (B : (BlockMeasured s (i + 1) to σ test m old mid a) × (a.state.tick ≤ σ.period)) where
      pub one_goes : a.next ≡ i + 1 + size (first_part S.here.file.block)
      one_goes = ifs.one_goes I in_time B.0.passed B.1

      module _ {z : State} (e : z ≡ back_to test 0 a.state.records) where
        pub two_entered : Entered s (a.next + 1) to σ z
        two_entered = subst (Entered s (a.next + 1) to σ) (sym e) (ifs.two_entered I in_time B.0.passed B.1)

        pub two_up : BlockLate s (a.next + 1) to σ z → StatementLate s i to σ from
        two_up L =
            statement_gives_up (ifs.two_late I in_time B.0.passed B.1 (block_over (subst (BlockLate s (a.next + 1) to σ) e L)) (over_late σ)) (over_late σ)

        module _ {end : List ℕ} {d : Passage} (D : (BlockMeasured s (a.next + 1) to σ z a.ifs mid end d) × (d.state.tick ≤ σ.period)) where
          E : BlockMeasured s (a.next + 1) to σ (back_to test 0 a.state.records) a.ifs mid end d
          E = subst (λ (u : State). BlockMeasured s (a.next + 1) to σ u a.ifs mid end d) e D.0

          pub two_goes : d.next ≡ i + 1 + size (first_part S.here.file.block) + 1 + size (second_part S.here.file.block)
          two_goes = ifs.two_goes I in_time B.0.passed B.1 E.passed D.1

          pub both_meet : Meeting σ a.state d.state
          both_meet = ifs.meeting I in_time B.0.passed B.1 E.passed D.1

          module _ {r : State} (M : Meets σ a.state d.state r) where
            met_within : r.tick ≤ σ.period
            met_within =
                let one = ifs.one_after I in_time B.0.passed B.1 in
                let two = ifs.two_after I in_time B.0.passed B.1 E.passed D.1 in
                omega (arith, (M.right test (ifs.first I) (ifs.second I) (ifs.test_wait I) one two).tick, one.tick, two.tick, B.1, D.1)

            pub branch_done : {new : List ℕ} {p j : ℕ} → p ≤ 1821 → m ≡ min (p + 1) 1821 → j ≡ p → Noting j r.tick end new
                → (StatementMeasured s i to σ from p old new (record { state = r; next = d.next + 1; ifs = d.ifs })) × (r.tick ≤ σ.period)
            branch_done {new} few f e N =
                (branch_measured I in_time few f B.0 B.1 E D.1 M (subst (λ (u : ℕ). Noting u r.tick end new) e N), met_within)
