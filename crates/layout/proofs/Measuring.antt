-- Measuring, with the meetings that it notes: block, statement and loop, turn by turn.
use Prim.Native.Nat.{ℕ, ◌+◌, ◌≤◌, ◌<◌, min}
use native.Mathlib.Omega.{arith}
use mathlib.Core.Path.{◌≡◌, refl, ap, sym, subst}
use mathlib.Core.{Bool.true, Bool.false, List.List, List.◌++◌}
use lib.ListN.{length, length-append}
use Rattle.model.specs.declared.Form.TheVariants.{Equalised}
use Rattle.model.specs.declared.Settings.{Settings}
use Rattle.model.specs.Records.{kind_at, record_at, SKIP, IF, TIMES}
use Rattle.model.specs.Trees.{check, Block, nil, act, ◌⧺◌}
use Rattle.model.specs.Layout.{before}
use Rattle.records.specs.declared.Record.{Record}
use Rattle.records.specs.Records.{record_of}
use Rattle.reading.specs.{Closing.closes_block, Ranges.Stands}
use Rattle.timing.specs.Times.{step_ticks}
use Rattle.placing.specs.declared.clock.State.{State}
use Rattle.layout.specs.declared.measure.Passage.{Passage}
use Rattle.placing.specs.States.{Stepped, Skipped, back_to}
use Rattle.layout.specs.Ranges.{only}
use Rattle.layout.specs.Measured.{laid, Meets, Entered, Statement, BlockPassed, StatementPassed}
use Rattle.layout.specs.Meetings.{meetings, Noting, Noted, Notes, BlockMeasured, StatementMeasured}
use Rattle.reading.proofs.Walking.{every, none_closed, none_ended}
use Rattle.layout.proofs.Noting.{notes-++, notes_first, plain_step, plain_idles, noted_plain, noted-⧺}
use Rattle.layout.proofs.{Unrolled.rounds, Unrolled.rounds_none, PassingRounds.PassingRounds, PassingBranches.Tested}
use Rattle.layout.proofs.Passing.{in_time, Passing, passing_start, left, all_done, passing_done, passing_late, passing_next}
use Rattle.layout.proofs.PassingSteps.{LaidAs, laid_every, skip_as, skip_passed, is_act, act_as, act_passed}
use Rattle.layout.proofs.PassingRounds as loops
use Rattle.layout.proofs.PassingBranches as ifs

-- nothing is noted of what ends too late
pub block_late : {s : List ℕ} {i to : ℕ} {σ : Settings} {at : State} {k : ℕ} {old new : List ℕ} {r : Passage} → BlockPassed s i to σ at r → σ.period < r.state.tick
    → BlockMeasured s i to σ at k old new r
block_late P h = record { passed = P; noted = λ b B l. absurd (omega (arith, ((P.right b B).after l).tick)) }

pub statement_late : {s : List ℕ} {i to : ℕ} {σ : Settings} {at : State} {k : ℕ} {old new : List ℕ} {r : Passage} → StatementPassed s i to σ at r → σ.period < r.state.tick
    → StatementMeasured s i to σ at k old new r
statement_late P h = record { passed = P; noted = λ b B l. absurd (omega (arith, ((P.right b B).after l).tick)) }

-- A BLOCK

-- the meetings of what is done are noted
pub record Measuring (s : List ℕ) (from to : ℕ) (σ : Settings) (at state : State) (next k n : ℕ) (old new : List ℕ) : Type 0 where
  pub passing : Passing s from to σ at state next
  pub noted : Noted σ passing.done at.tick k n old new
  pub few : k ≤ 1821

pub measuring_start : {s : List ℕ} {from to : ℕ} {σ : Settings} {at : State} {k : ℕ} {table : List ℕ} → Entered s from to σ at → k ≤ 1821
    → Measuring s from to σ at at from k k table table
unfolding passing_start
measuring_start E h = record { passing = passing_start E; noted = noted_plain h refl; few = h }

module _ {s : List ℕ} {from to : ℕ} {σ : Settings} {at state : State} {next k n : ℕ} {old new : List ℕ} (M : Measuring s from to σ at state next k n old new) where
  abbrev P : Passing s from to σ at state next
  P = M.passing

  pub measuring_few : n ≤ 1821
  measuring_few = omega (arith, M.noted.next)

  measured : left P ≡ nil → BlockMeasured s from to σ at k old new (record { state = state; next = next; ifs = n })
  measured e = record {
    passed = passing_done P e;
    noted = λ b B l. every (λ (x : Block). Noted σ (laid σ x at.tick) at.tick k n old new) P.all
        (subst (λ (c : Block). Noted σ c at.tick k n old new) (sym (all_done P e)) M.noted) b B;
  }

  pub measuring_closed : closes_block (kind_at s next) ≡ true → BlockMeasured s from to σ at k old new (record { state = state; next = next; ifs = n })
  measuring_closed c = measured (none_closed P.walk c)

  pub measuring_ended : to ≤ next → BlockMeasured s from to σ at k old new (record { state = state; next = next; ifs = n })
  measuring_ended l = measured (none_ended P.walk l)

  module _ (l : next < to) (c : closes_block (kind_at s next) ≡ false) {table : List ℕ} {r : Passage} (S : StatementMeasured s next to σ state n new table r) where
    pub measuring_late : σ.period < r.state.tick → BlockMeasured s from to σ at k old table r
    measuring_late h = block_late (passing_late P l c S.passed h) h

    pub measuring_next : r.state.tick ≤ σ.period → Measuring s from to σ at r.state r.next k r.ifs old table
    unfolding passing_next
    measuring_next h = record {
      passing = passing_next P l c S.passed h;
      noted = noted-⧺ P.done (laid σ (only (left P)) state.tick) M.few P.after.tick M.noted
          (S.noted (left P) P.walk.rest.stands (in_time (S.passed.right (left P) P.walk.rest.stands) h));
      few = M.few;
    }

-- an empty side
pub side_empty : {s : List ℕ} {i to : ℕ} {σ : Settings} {at : State} {k : ℕ} {table : List ℕ} → Entered s i to σ at → k ≤ 1821 → closes_block (kind_at s i) ≡ true
    → BlockMeasured s i to σ at k table table (record { state = at; next = i; ifs = k })
side_empty E h c = measuring_closed (measuring_start E h) c

-- A STATEMENT

-- one that is laid as c
pub noted_as : {s : List ℕ} {i to : ℕ} {σ : Settings} {from : State} {S : Statement s i to σ from} {c : Block} {m k n : ℕ} {old new : List ℕ} → LaidAs S c m
    → Noted σ c from.tick k n old new → (y : Block) → Stands Equalised s i to y → Noted σ (laid σ (only y) from.tick) from.tick k n old new
noted_as {σ = σ} {from} {k = k} {n} {old} {new} A N y Y = laid_every (λ (d : Block) (m : ℕ). Noted σ d from.tick k n old new) A N y Y

module _ {s : List ℕ} {i to : ℕ} {σ : Settings} {from : State} (S : Statement s i to σ from) {k : ℕ} (few : k ≤ 1821) {table : List ℕ} {x : Record}
    (e : record_of x ≡ record_at s i) where
  pub skip_measured : x.kind ≡ SKIP → {r : State} → Skipped σ x.count from r
      → StatementMeasured s i to σ from k table table (record { state = r; next = i + 1; ifs = k })
  skip_measured h A = record {
    passed = skip_passed S e h A;
    noted = λ y Y l. noted_as (skip_as S e h) (noted_plain few (plain_idles σ x.count from.tick from.tick)) y Y;
  }

  pub act_measured : (x.kind ≡ SKIP → ⊥) → (x.kind ≡ IF → ⊥) → (x.kind ≡ TIMES → ⊥) → {d : ℕ} {r : State} → d ≡ step_ticks σ (record_of x) → Stepped σ from d r
      → StatementMeasured s i to σ from k table table (record { state = r; next = i + 1; ifs = k })
  act_measured a b c {d} h T = record {
    passed = act_passed S e a b c h T;
    noted = λ y Y l. noted_as (act_as S e a b c h) (noted_plain few (plain_step σ d (is_act S e a b c).act_of from.tick)) y Y;
  }

-- A LOOP

-- the meetings of its rounds are noted
pub record MeasuringRounds (s : List ℕ) (i to : ℕ) (σ : Settings) (from : State) (last : ℕ) (state : State) (next round k n : ℕ) (old new : List ℕ) : Type 0 where
  pub passing : PassingRounds s i to σ from last state next round
  pub noted : Noted σ (rounds σ (loops.body passing.loop) round from.tick) from.tick k n old new
  pub few : k ≤ 1821

module _ {s : List ℕ} {i to : ℕ} {σ : Settings} {from : State} {last : ℕ} where
  pub loop_start : {k : ℕ} {table : List ℕ} → PassingRounds s i to σ from last from (i + 1) 0 → k ≤ 1821 → MeasuringRounds s i to σ from last from (i + 1) 0 k k table table
  loop_start P h = record {
    passing = P;
    noted = noted_plain h (ap (λ (c : Block). meetings σ c from.tick) (rounds_none σ (loops.body P.loop) from.tick));
    few = h;
  }

  module _ {state : State} {next round k n : ℕ} {old new : List ℕ} (M : MeasuringRounds s i to σ from last state next round k n old new) where
    abbrev L : PassingRounds s i to σ from last state next round
    L = M.passing

    pub loop_few : n ≤ 1821
    loop_few = omega (arith, M.noted.next)

    module _ (l : round < last) {table : List ℕ} {r : Passage} (B : BlockMeasured s (i + 1) to σ state n new table r) where
      pub loop_late : σ.period < r.state.tick → StatementMeasured s i to σ from k old table r
      loop_late h = statement_late (loops.rounding_late L.turn l B.passed h) h

      pub loop_next : r.state.tick ≤ σ.period → MeasuringRounds s i to σ from last r.state r.next (round + 1) k r.ifs old table
      loop_next h =
          let a = loops.body L.loop in
          record {
            passing = record { loop = L.loop; turn = loops.rounding_next L.turn l B.passed h };
            noted = subst (λ (c : Block). Noted σ c from.tick k r.ifs old table) (sym (loops.more L.turn l B.passed))
                (noted-⧺ (rounds σ a round from.tick) (laid σ a state.tick) M.few L.turn.after.tick M.noted
                (B.noted a (loops.opened L.loop).first (in_time (loops.passes L.turn l B.passed) h)));
            few = M.few;
          }

    module _ (l : last ≤ round) {r : State} (T : Stepped σ state 1 r) where
      pub loop_measured : StatementMeasured s i to σ from k old new (record { state = r; next = next + 1; ifs = n })
      loop_measured =
          let a = loops.body L.loop in
          let q = loops.test L.loop in
          let u = loops.check_tick L.loop in
          let N = subst (λ (m : ℕ). Noted σ (rounds σ a m from.tick) from.tick k n old new) (loops.done L.turn l) M.noted in
          record {
            passed = loops.rounds_passed L.turn l T;
            noted = λ y Y h. noted_as (loops.times_as L.loop)
                (noted-⧺ (rounds σ a last from.tick) (before σ u 1 ⧺ act (check q) nil) M.few refl N (noted_plain loop_few (plain_step σ 1 (check q) u))) y Y;
          }

-- AN IF

module _ {s : List ℕ} {i to : ℕ} {σ : Settings} {from test : State} (I : Tested s i to σ from test) (h : test.tick ≤ σ.period) {k : ℕ} (few : k ≤ 1821) where
  -- the first place after its own
  module _ {n : ℕ} (e : n ≡ min (k + 1) 1821) {old mid : List ℕ} {a : Passage} (A : BlockMeasured s (i + 1) to σ test n old mid a) (l : a.state.tick ≤ σ.period) where
    first_noted : Noted σ (ifs.first I) test.tick n a.ifs old mid
    first_noted = A.noted (ifs.one I) (ifs.sides I).first (in_time (A.passed.right (ifs.one I) (ifs.sides I).first) l)

    pub first_few : a.ifs ≤ 1821
    first_few = omega (arith, first_noted.next)

    module _ {end : List ℕ} {d : Passage} (D : BlockMeasured s (a.next + 1) to σ (back_to test 0 a.state.records) a.ifs mid end d) (m : d.state.tick ≤ σ.period) where
      second_noted : Noted σ (ifs.second I) test.tick a.ifs d.ifs mid end
      second_noted =
          let there = (ifs.two_in I h A.passed l).stands in
          D.noted (ifs.two I) there (in_time (D.passed.right (ifs.two I) there) m)

      module _ {r : State} (M : Meets σ a.state d.state r) {new : List ℕ} (N : Noting k r.tick end new) where
        meets_at : r.tick ≡ ifs.end I
        meets_at = (M.right test (ifs.first I) (ifs.second I) (ifs.test_wait I) (ifs.one_after I h A.passed l) (ifs.two_after I h A.passed l D.passed m)).tick

        all_noted : Noted σ (ifs.whole I) from.tick k d.ifs old new
        all_noted =
            let x = meetings σ (ifs.first I) test.tick in
            let y = meetings σ (ifs.second I) test.tick in
            let z = ifs.whole_meetings I in
            record {
              next = omega (arith, e, first_noted.next, second_noted.next, ap length z, length-append x y);
              notes = subst (λ (ms : List ℕ). Notes ms k old new) (sym z)
                  (notes_first few (x ++ y) e (notes-++ (omega (arith, e)) x y first_noted.next first_noted.notes second_noted.notes)
                  (subst (λ (t : ℕ). Noting k t end new) meets_at N));
            }

        pub branch_measured : StatementMeasured s i to σ from k old new (record { state = r; next = d.next + 1; ifs = d.ifs })
        branch_measured = record { passed = ifs.branch_passed I h A.passed l D.passed m M; noted = λ y Y w. noted_as (ifs.branch_as I) all_noted y Y }
