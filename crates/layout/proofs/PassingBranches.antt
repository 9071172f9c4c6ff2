-- Measuring an IF: its test, both sides from there on, and the tick at which they meet.
use Prim.Native.Nat.{ℕ, ◌+◌, ◌-◌, ◌≤◌, ◌<◌, max}
use native.Mathlib.Omega.{arith}
use mathlib.Core.Path.{◌≡◌, refl, ap, ap₂, sym, subst, ◌∙◌}
use mathlib.Core.List.{List, [], ◌∷◌, ◌++◌, append-nil}
use Rattle.model.specs.declared.Settings.{Settings}
use Rattle.model.specs.declared.Form.TheVariants.{Equalised}
use Rattle.model.specs.{Records.kind_at, Records.record_at, Records.IF, Layout.before, Layout.fill, Layout.filled}
use Rattle.model.specs.Trees.{Test, check, Block, nil, act, branch, ◌⧺◌, size}
use Rattle.model.specs.{Times.time, Equalising.merge, Placement.Fits}
use Rattle.theory.specs.Windows.{Free}
use Rattle.theory.proofs.{Times.time-⧺, Windows.later, Windows.free_tested, Windows.free_later}
use Rattle.records.proofs.Blocks.{size_waiting}
use Rattle.reading.specs.{Closing.opens_block, Walks.IfAt}
use Rattle.reading.specs.Ranges.{InFile, first_part, second_part, after_first, test_of}
use Rattle.placing.specs.declared.clock.State.{State}
use Rattle.layout.specs.declared.measure.Passage.{Passage}
use Rattle.placing.specs.Merging.{waits}
use Rattle.placing.specs.States.{cap, After, Stepped, back_to}
use Rattle.layout.specs.Measured.{laid, Passes, Met, Meeting, Meets, Ready, Entered, Statement, BlockPassed, StatementPassed}
use Rattle.layout.specs.Meetings.{meetings}
use Rattle.placing.proofs.{Settling.waits-⧺, Settling.size_settled, Moves.shows_on}
use Rattle.reading.proofs.Walking.{first_in_is, if_at, second_in}
use Rattle.layout.proofs.{Noting.meetings-⧺, Noting.plain_before, Noting.plain_fill, Unrolled.laid_branch, Unrolled.laid_free, Unrolled.filled_ends}
use Rattle.layout.proofs.Passing.{in_time, too_late, passed, passed_late, laying_on}
use Rattle.layout.proofs.PassingSteps.{LaidAs, laid_as, answered, block}

-- An IF from t on, whose test ended at `test` and whose sides are laid as a and d and meet at e.
module _ {σ : Settings} {from test : State} (q : Test) (a d : Block) (fits : Fits σ) (A : After σ (before σ from.tick 1 ⧺ act (check q) nil) from test) where
  abbrev end_of : ℕ
  end_of = test.tick + max (time σ a) (time σ d)

  abbrev side_of : Block → Block
  side_of b = filled σ test.tick b end_of

  pub branch_after : {r : State} → Met σ test a d r → Free σ 1 (test.tick + time σ a) → Free σ 1 (test.tick + time σ d)
      → After σ (before σ from.tick 1 ⧺ branch q (side_of a) (side_of d) nil) from r
  branch_after {r} M f g = record {
    shows = M.shows;
    tick = omega (
      arith,
      M.tick,
      A.tick,
      time-⧺ σ lead (act (check q) nil),
      time-⧺ σ lead (branch q (side_of a) (side_of d) nil),
      filled_ends σ fits a test.tick end_of f top (omega arith),
      filled_ends σ fits d test.tick end_of g top (omega arith),
    );
    wait = M.wait ∙ sym (waits-⧺ from.wait lead (branch q (side_of a) (side_of d) nil));
    records = omega (
      arith,
      counts,
      A.records,
      size_settled from.wait lead (act (check q) nil),
      size_waiting w (act (check q) nil),
      size_settled from.wait lead (branch q (side_of a) (side_of d) nil),
      size_waiting w (branch q (merge 0 (side_of a)) (merge 0 (side_of d)) nil),
    );
  }
    where
      lead : Block
      lead = before σ from.tick 1

      w : ℕ
      w = waits from.wait lead

      top : Free σ 1 end_of
      top = free_later σ fits end_of (test.tick + time σ a) (test.tick + time σ d) (omega arith) f g

      counts : r.records ≡ cap (test.records + (2 + size (merge 0 (side_of a)) + size (merge 0 (side_of d))))
      counts = M.records ∙ ap (λ (e : ℕ). cap (test.records + (2 + size (merge 0 (filled σ test.tick a e)) + size (merge 0 (filled σ test.tick d e))))) M.tick

-- the IF at i, whose test ends at `test`
pub record Tested (s : List ℕ) (i to : ℕ) (σ : Settings) (from test : State) : Type 0 where
  pub statement : Statement s i to σ from
  pub kind : kind_at s i ≡ IF
  pub stepped : Stepped σ from 1 test

module _ {s : List ℕ} {i to : ℕ} {σ : Settings} {from test : State} (I : Tested s i to σ from test) where
  abbrev S : Statement s i to σ from
  S = I.statement

  pub sides : IfAt Equalised s i to (block S)
  sides = if_at S.here I.kind

  abbrev pub one : Block
  one = first_part (block S)

  abbrev pub two : Block
  two = second_part (block S)

  abbrev q : Test
  q = test_of (record_at s i)

  -- THE TEST

  abbrev lead : Block
  lead = before σ from.tick 1

  pub tested : After σ (lead ⧺ act (check q) nil) from test
  tested = I.stepped.after (check q) refl

  pub test_tick : test.tick ≡ from.tick + time σ lead + 1
  test_tick = omega (arith, tested.tick, time-⧺ σ lead (act (check q) nil))

  pub test_wait : test.wait ≡ 0
  test_wait = tested.wait ∙ waits-⧺ from.wait lead (act (check q) nil)

  pub test_free : Free σ 1 test.tick
  test_free = subst (Free σ 1) (sym test_tick) (free_tested σ S.ready.laying.settings.fits 0 from.tick S.ready.free)

  -- THE WHOLE

  abbrev pub first : Block
  first = laid σ one test.tick

  abbrev pub second : Block
  second = laid σ two test.tick

  abbrev pub end : ℕ
  end = test.tick + max (time σ first) (time σ second)

  abbrev pub whole : Block
  whole = lead ⧺ branch q (filled σ test.tick first end) (filled σ test.tick second end) nil

  pub branch_as : LaidAs S whole (3 + size one + size two)
  branch_as =
      laid_as (branch q one two (after_first (block S))) sides.is
      (laid_branch σ q one two from.tick
      ∙ ap (λ (u : ℕ).
      let e = u + max (time σ (laid σ one u)) (time σ (laid σ two u)) in
      lead ⧺ branch q (filled σ u (laid σ one u) e) (filled σ u (laid σ two u) e) nil) (sym test_tick))

  -- where each side ends, and where they meet
  pub first_free : Free σ 1 (test.tick + time σ first)
  first_free = laid_free σ S.ready.laying.settings.fits one 1 test.tick sides.first.fills.of_form (omega arith) test_free

  pub second_free : Free σ 1 (test.tick + time σ second)
  second_free = laid_free σ S.ready.laying.settings.fits two 1 test.tick sides.second.fills.of_form (omega arith) test_free

  pub end_free : Free σ 1 end
  end_free = free_later σ S.ready.laying.settings.fits end (test.tick + time σ first) (test.tick + time σ second) (omega arith) first_free second_free

  -- its meeting, and those in its sides
  side_meetings : (a : Block) → meetings σ (filled σ test.tick a end) test.tick ≡ meetings σ a test.tick
  side_meetings a =
      let t = test.tick + time σ a in
      meetings-⧺ σ a (fill σ (end - t) t end) test.tick
      ∙ ap (λ (ms : List ℕ). meetings σ a test.tick ++ ms) (plain_fill σ (end - t) t end t)
      ∙ append-nil (meetings σ a test.tick)

  pub whole_meetings : meetings σ whole from.tick ≡ end ∷ (meetings σ first test.tick ++ meetings σ second test.tick)
  whole_meetings =
      let F = filled σ test.tick first end in
      let G = filled σ test.tick second end in
      let v = from.tick + time σ lead in
      let f = filled_ends σ S.ready.laying.settings.fits first test.tick end first_free end_free (omega arith) in
      let g = filled_ends σ S.ready.laying.settings.fits second test.tick end second_free end_free (omega arith) in
      let e : test.tick + max (time σ F) (time σ G) ≡ end = omega arith in
      meetings-⧺ σ lead (branch q F G nil) from.tick
      ∙ ap (λ (ms : List ℕ). ms ++ meetings σ (branch q F G nil) v) (plain_before σ from.tick 1 from.tick)
      ∙ ap (λ (u : ℕ). (u + max (time σ F) (time σ G)) ∷ (meetings σ F u ++ (meetings σ G u ++ []))) (sym test_tick)
      ∙ ap (λ (m : ℕ). m ∷ (meetings σ F test.tick ++ (meetings σ G test.tick ++ []))) e
      ∙ ap₂ (λ (x y : List ℕ). end ∷ (x ++ y)) (side_meetings first) (append-nil (meetings σ G test.tick) ∙ side_meetings second)

  -- it lasts at least as long as its test and each side
  filled_longer : (a : Block) → time σ a ≤ time σ (filled σ test.tick a end)
  filled_longer a = omega (arith, time-⧺ σ a (fill σ (end - (test.tick + time σ a)) (test.tick + time σ a) end))

  pub not_before : end ≤ from.tick + time σ whole
  not_before =
      omega (
        arith,
        test_tick,
        time-⧺ σ lead (branch q (filled σ test.tick first end) (filled σ test.tick second end) nil),
        filled_longer first,
        filled_longer second,
      )

  pub test_late : {m : ℕ} → σ.period < test.tick → StatementPassed s i to σ from (record { state = test; next = i; ifs = m })
  test_late h = answered branch_as (passed_late (omega (arith, not_before)) h)

  module _ (h : test.tick ≤ σ.period) where
    pub ready : Ready σ test
    ready = record { laying = laying_on S.ready.laying tested h; free = later σ S.ready.laying.settings.fits 0 test.tick (omega arith) test_free }

    -- and once the first side has been laid, up to n records
    pub ready_again : {n : ℕ} → n ≤ 5462 → Ready σ (back_to test 0 n)
    ready_again few = record {
      laying = record {
        settings = S.ready.laying.settings;
        shows = shows_on 0 ready.laying.shows (omega arith) (omega arith) refl (omega arith) few;
        within = h;
      };
      free = ready.free;
    }

    -- THE FIRST SIDE

    unfoldable pub one_entered : Entered s (i + 1) to σ test
    one_entered = record { file = first_in_is S.here (ap opens_block I.kind); ready = ready }

    module _ {a : Passage} (A : BlockPassed s (i + 1) to σ test a) where
      one_passes : Passes σ first (i + 1 + size one) test a
      one_passes = A.right one sides.first

      pub one_late : σ.period < a.state.tick → StatementPassed s i to σ from a
      one_late l = answered branch_as (passed_late (omega (arith, not_before, too_late one_passes l)) l)

      module _ (l : a.state.tick ≤ σ.period) where
        pub one_after : After σ first test a.state
        one_after = one_passes.after (in_time one_passes l)

        pub one_goes : a.next ≡ i + 1 + size one
        one_goes = one_passes.goes (in_time one_passes l)

        -- THE SECOND

        abbrev pub two_in : InFile Equalised s (a.next + 1) to
        two_in = second_in S.here I.kind one_goes

        -- its records are counted after those of the first
        abbrev pub second_start : State
        second_start = back_to test 0 a.state.records

        unfoldable pub two_entered : Entered s (a.next + 1) to σ second_start
        two_entered = record { file = two_in; ready = ready_again one_after.shows.few }

        module _ {d : Passage} (D : BlockPassed s (a.next + 1) to σ second_start d) where
          two_passes : Passes σ second (a.next + 1 + size two) second_start d
          two_passes = D.right two two_in.stands

          pub two_late : σ.period < d.state.tick → StatementPassed s i to σ from d
          two_late m = answered branch_as (passed_late (omega (arith, not_before, too_late two_passes m)) m)

          module _ (m : d.state.tick ≤ σ.period) where
            pub two_after : After σ second second_start d.state
            two_after = two_passes.after (in_time two_passes m)

            pub two_goes : d.next ≡ i + 1 + size one + 1 + size two
            two_goes = omega (arith, two_passes.goes (in_time two_passes m), one_goes)

            -- BOTH

            pub meeting : Meeting σ a.state d.state
            meeting = record {
              one = laying_on ready.laying one_after l;
              two = laying_on (ready_again one_after.shows.few).laying two_after m;
              free_one = subst (Free σ 1) (sym one_after.tick) first_free;
              free_two = subst (Free σ 1) (sym two_after.tick) second_free;
            }

            module _ {r : State} (M : Meets σ a.state d.state r) where
              met : Met σ test first second r
              met = M.right test first second test_wait one_after two_after

              pub branch_passed : {p : ℕ} → StatementPassed s i to σ from (record { state = r; next = d.next + 1; ifs = p })
              branch_passed =
                  answered branch_as (passed (branch_after q first second S.ready.laying.settings.fits tested met first_free second_free) (omega (arith, two_goes)))
