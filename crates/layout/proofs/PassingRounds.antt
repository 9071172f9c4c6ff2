-- Measuring a loop: round after round of its body, and then its CHECK.
use Prim.Native.Nat.{ℕ, zero, suc, ◌+◌, ◌-◌, ◌≤◌, ◌<◌}
use native.Mathlib.{Omega.arith, Nat.add-zero}
use mathlib.Core.Path.{◌≡◌, refl, ap, sym, subst, ◌∙◌}
use mathlib.Core.List.{List}
use Rattle.model.specs.declared.Settings.{Settings}
use Rattle.model.specs.declared.Form.TheVariants.{Equalised}
use Rattle.model.specs.{Records.kind_at, Records.record_at, Records.TIMES, Standing.OfForm}
use Rattle.model.specs.Trees.{Test, check, Block, nil, act, times, ◌⧺◌, size}
use Rattle.model.specs.{Times.time, Layout.before, Placement.Fits}
use Rattle.theory.specs.Windows.{Free}
use Rattle.theory.proofs.{Times.time-⧺}
use Rattle.reading.specs.{Closing.opens_block, Walks.OpenAt}
use Rattle.reading.specs.Ranges.{first_part, after_first, test_of}
use Rattle.placing.specs.declared.clock.State.{State}
use Rattle.layout.specs.declared.measure.Passage.{Passage}
use Rattle.placing.specs.States.{After, Stepped}
use Rattle.layout.specs.Measured.{laid, Passes, Ready, Entered, Statement, BlockPassed, StatementPassed}
use Rattle.placing.proofs.Going.{after_nil, after-⧺}
use Rattle.reading.proofs.Walking.{times_at, open_at, first_in_is}
use Rattle.layout.proofs.Standing.{some_rounds}
use Rattle.layout.proofs.Unrolled.{rounds, rounds_none, rounds_more, laid_times, laid_free}
use Rattle.layout.proofs.Passing.{in_time, too_late, passed, passed_late, laying_on}
use Rattle.layout.proofs.PassingSteps.{LaidAs, laid_as, answered, block}

-- more rounds take longer
rounds_longer : (σ : Settings) (fits : Fits σ) (a : Block) (m k t : ℕ) → OfForm Equalised a → Free σ 0 t → time σ (rounds σ a m t) ≤ time σ (rounds σ a (m + k) t)
rounds_longer σ fits a m zero t p f = omega (arith, ap (λ (n : ℕ). time σ (rounds σ a n t)) (add-zero m))
rounds_longer σ fits a m (suc k) t p f =
    let n : m + suc k ≡ m + k + 1 = omega arith in
    let u = t + time σ (rounds σ a (m + k) t) in
    omega (
      arith,
      rounds_longer σ fits a m k t p f,
      ap (λ (n : ℕ). time σ (rounds σ a n t)) n,
      ap (time σ) (rounds_more σ fits a (m + k) t p f),
      time-⧺ σ (rounds σ a (m + k) t) (laid σ a u),
    )

-- THE LOOP

-- a loop of `last` rounds stands at i
pub record Loop (s : List ℕ) (i to : ℕ) (σ : Settings) (from : State) (last : ℕ) : Type 0 where
  pub statement : Statement s i to σ from
  pub kind : kind_at s i ≡ TIMES
  pub count_is : last ≡ (record_at s i).count

module _ {s : List ℕ} {i to : ℕ} {σ : Settings} {from : State} {last : ℕ} (O : Loop s i to σ from last) where
  abbrev S : Statement s i to σ from
  S = O.statement

  abbrev pub body : Block
  body = first_part (block S)

  abbrev pub test : Test
  test = test_of (record_at s i)

  pub opened : OpenAt Equalised s i to (block S)
  opened = open_at S.here (ap opens_block O.kind)

  pub body_form : OfForm Equalised body
  body_form = opened.first.fills.of_form

  -- it is laid as its rounds, and the CHECK after them
  abbrev pub check_tick : ℕ
  check_tick = from.tick + time σ (rounds σ body last from.tick)

  abbrev pub whole : Block
  whole = rounds σ body last from.tick ⧺ (before σ check_tick 1 ⧺ act (check test) nil)

  pub times_as : LaidAs S whole (2 + size body)
  times_as =
      let n = (record_at s i).count in
      laid_as (times test n body (after_first (block S))) (times_at S.here O.kind)
      (laid_times σ S.ready.laying.settings.fits test n body from.tick body_form S.ready.free
      ∙ ap (λ (n : ℕ). let c = rounds σ body n from.tick in c ⧺ (before σ (from.tick + time σ c) 1 ⧺ act (check test) nil)) (sym O.count_is))

  -- so many rounds are laid
  pub record Rounding (state : State) (next round : ℕ) : Type 0 where
    pub upto : round ≤ last
    pub ready : Ready σ state
    pub after : After σ (rounds σ body round from.tick) from state
    pub later : 1 ≤ round → next ≡ i + 1 + size body

  pub rounding_start : Rounding from (i + 1) 0
  rounding_start = record {
    upto = omega arith;
    ready = S.ready;
    after = subst (λ (c : Block). After σ c from from) (sym (rounds_none σ body from.tick)) (after_nil S.ready.laying.shows);
    later = λ h. absurd (omega arith);
  }

module _ {s : List ℕ} {i to : ℕ} {σ : Settings} {from : State} {last : ℕ} {O : Loop s i to σ from last} {state : State} {next round : ℕ}
    (P : Rounding O state next round) where
  abbrev a : Block
  a = body O

  abbrev fits : Fits σ
  fits = O.statement.ready.laying.settings.fits

  -- A ROUND

  unfoldable pub body_entered : Entered s (i + 1) to σ state
  body_entered = record { file = first_in_is O.statement.here (ap opens_block O.kind); ready = P.ready }

  module _ (l : round < last) {r : Passage} (B : BlockPassed s (i + 1) to σ state r) where
    abbrev one : Block
    one = laid σ a state.tick

    pub passes : Passes σ one (i + 1 + size a) state r
    passes = B.right a (opened O).first

    pub more : rounds σ a (round + 1) from.tick ≡ rounds σ a round from.tick ⧺ one
    more =
        rounds_more σ fits a round from.tick (body_form O) O.statement.ready.free
        ∙ ap (λ (t : ℕ). rounds σ a round from.tick ⧺ laid σ a t) (sym P.after.tick)

    -- they end where this one does, or later
    not_before : state.tick + time σ one ≤ from.tick + time σ (whole O)
    not_before =
        let n : round + 1 + (last - (round + 1)) ≡ last = omega arith in
        omega (
          arith,
          P.after.tick,
          ap (time σ) more,
          time-⧺ σ (rounds σ a round from.tick) one,
          rounds_longer σ fits a (round + 1) (last - (round + 1)) from.tick (body_form O) O.statement.ready.free,
          ap (λ (m : ℕ). time σ (rounds σ a m from.tick)) n,
          time-⧺ σ (rounds σ a last from.tick) (before σ (check_tick O) 1 ⧺ act (check (test O)) nil),
        )

    pub rounding_late : σ.period < r.state.tick → StatementPassed s i to σ from r
    rounding_late h = answered (times_as O) (passed_late (omega (arith, not_before, too_late passes h)) h)

    pub rounding_next : r.state.tick ≤ σ.period → Rounding O r.state r.next (round + 1)
    rounding_next h =
        let A = passes.after (in_time passes h) in
        record {
          upto = omega arith;
          ready = record {
            laying = laying_on P.ready.laying A h;
            free = subst (Free σ 0) (sym A.tick) (laid_free σ fits a 0 state.tick (body_form O) (omega arith) P.ready.free);
          };
          after = subst (λ (c : Block). After σ c from r.state) (sym more) (after-⧺ (rounds σ a round from.tick) one P.after A);
          later = λ z. passes.goes (in_time passes h);
        }

  -- THE CHECK

  module _ (l : last ≤ round) where
    pub done : round ≡ last
    done = omega (arith, P.upto)

    -- the END stands at next
    pub at_end : next ≡ i + 1 + size a
    at_end = P.later (omega (arith, done, O.count_is, some_rounds O.statement.here O.kind))

    pub rounds_passed : {r : State} {m : ℕ} → Stepped σ state 1 r → StatementPassed s i to σ from (record { state = r; next = next + 1; ifs = m })
    rounds_passed {r} T =
        let last_check = before σ (check_tick O) 1 ⧺ act (check (test O)) nil in
        let A = subst (λ (n : ℕ). After σ (rounds σ a n from.tick) from state) done P.after in
        let C = subst (λ (t : ℕ). After σ (before σ t 1 ⧺ act (check (test O)) nil) state r) A.tick (T.after (check (test O)) refl) in
        answered (times_as O) (passed (after-⧺ (rounds σ a last from.tick) last_check A C) (omega (arith, at_end)))

-- all that is known at a turn of the loop
pub record PassingRounds (s : List ℕ) (i to : ℕ) (σ : Settings) (from : State) (last : ℕ) (state : State) (next round : ℕ) : Type 0 where
  pub loop : Loop s i to σ from last
  pub turn : Rounding loop state next round
