-- Writing a loop: round after round of its body, and then its CHECK.
use Prim.Native.Nat.{ℕ, suc, ◌+◌, ◌-◌, ◌≤◌, ◌<◌}
use native.Mathlib.{Omega.arith, Nat.sub-zero}
use mathlib.Core.Path.{◌≡◌, refl, ap, sym, subst, ◌∙◌}
use mathlib.Core.List.{List, ◌++◌, append-nil}
use lib.ListN.{length, length-append}
use Rattle.model.specs.declared.Settings.{Settings}
use Rattle.model.specs.Records.{Rec, kind_at, record_at, TIMES}
use Rattle.model.specs.Trees.{check, Block, nil, act, ◌⧺◌, size, act_rec}
use Rattle.model.specs.{Times.time, Layout.before}
use Rattle.laws.proofs.Trees.{⧺-nil, ⧺-assoc}
use Rattle.theory.proofs.Times.{time-⧺}
use Rattle.records.proofs.Over.{lent, back}
use Rattle.placing.specs.declared.clock.State.{State}
use Rattle.layout.specs.declared.measure.Passage.{Passage}
use Rattle.layout.specs.{Measured.laid, Measured.BlockPassed, Meetings.meetings, Meetings.Holds}
use Rattle.placing.specs.Placed.{step_bytes, StepLaid}
use Rattle.layout.specs.Written.{LaidFits, StatementFits, BlockFits, BlockLaid, LaysTo, StatementLaid}
use Rattle.placing.proofs.Settling.{alike_eq}
use Rattle.layout.proofs.{Unrolled.rounds, Unrolled.rounds_none, Unrolled.rounds_first, Passing.passed}
use Rattle.placing.proofs.Writing.{laid_bytes, Writing, writing_start, writing_same, writing_room, writing_next, writing_end}
use Rattle.layout.proofs.Noting.{holds_left, holds_right, meetings-⧺, plain_step}
use Rattle.layout.proofs.PassingRounds.{Loop, body, test, opened, body_form, check_tick, whole, times_as}
use Rattle.layout.proofs.PassingRounds.{Rounding, rounding_start, body_entered, more, rounding_next, at_end}
use Rattle.layout.proofs.WritingSteps.{fits_as, holds_as, answered_as, step_fits, step_lays}

-- a block that is laid has passed
pub block_passed : {s : List ℕ} {i to : ℕ} {σ : Settings} {at : State} {k : ℕ} {old new : List ℕ} {r : Passage} → BlockLaid s i to σ at k old new r → BlockPassed s i to σ at r
block_passed L = record { right = λ b B. passed (L.right b B).lays.after (L.right b B).goes }

-- the loop at i, of `last` rounds, fits
pub record LoopFits (s : List ℕ) (i to : ℕ) (σ : Settings) (from : State) (p : ℕ) (table old : List ℕ) (last : ℕ) : Type 0 where
  pub fits : StatementFits s i to σ from p table old
  pub kind : kind_at s i ≡ TIMES
  pub count_is : last ≡ (record_at s i).count

module _ {s : List ℕ} {i to : ℕ} {σ : Settings} {from : State} {p : ℕ} {table old : List ℕ} {last : ℕ} (F : LoopFits s i to σ from p table old last) where
  abbrev pub loop : Loop s i to σ from last
  loop = record { statement = F.fits.statement; kind = F.kind; count_is = F.count_is }

  abbrev a : Block
  a = body loop

  -- the CHECK from tick u on
  abbrev check_from : ℕ → Block
  check_from u = before σ u 1 ⧺ act (check (test loop)) nil

  abbrev ending : Block
  ending = check_from (check_tick loop)

  abbrev all : Block
  all = whole loop

  the_loop : LaidFits σ all from old
  the_loop = fits_as F.fits (times_as loop)

  -- its meetings are those of its rounds
  the_meetings : meetings σ all from.tick ≡ meetings σ (rounds σ a last from.tick) from.tick
  the_meetings =
      meetings-⧺ σ (rounds σ a last from.tick) ending from.tick
      ∙ ap (λ (ms : List ℕ). meetings σ (rounds σ a last from.tick) from.tick ++ ms)
      (plain_step σ 1 (check (test loop)) (check_tick loop))
      ∙ append-nil (meetings σ (rounds σ a last from.tick) from.tick)

  held : Holds (meetings σ (rounds σ a last from.tick) from.tick) p table
  held = subst (λ (ms : List ℕ). Holds ms p table) the_meetings (holds_as F.fits (times_as loop))

  -- what is left after some rounds
  abbrev left_from : State → ℕ → Block
  left_from state round = rounds σ a (last - round) state.tick ⧺ ending

  pub record WritingRounds (state : State) (next round n : ℕ) (new : List ℕ) : Type 0 where
    pub rounding : Rounding loop state next round
    pub writing : Writing σ all (left_from state round) from state old new
    pub ifs : n ≡ p + length (meetings σ (rounds σ a round from.tick) from.tick)
    pub holds : Holds (meetings σ (rounds σ a (last - round) state.tick) state.tick) n table

  rounds_start : WritingRounds from (i + 1) 0 p old
  rounds_start = record {
    rounding = rounding_start loop;
    writing = writing_same (writing_start F.fits.statement.ready.laying.shows the_loop.room)
        (alike_eq (ap (λ (n : ℕ). rounds σ a n from.tick ⧺ ending) (sym (sub-zero last))));
    ifs = omega (arith, ap (λ (c : Block). length (meetings σ c from.tick)) (rounds_none σ a from.tick));
    holds = subst (λ (n : ℕ). Holds (meetings σ (rounds σ a n from.tick) from.tick) p table) (sym (sub-zero last)) held;
  }

  module _ {state : State} {next round n : ℕ} {new : List ℕ} (W : WritingRounds state next round n new) where
    -- A ROUND

    module _ (l : round < last) where
      abbrev one : Block
      one = laid σ a state.tick

      abbrev others : Block
      others = rounds σ a (last - (round + 1)) (state.tick + time σ one) ⧺ ending

      abbrev rest : Block
      rest = rounds σ a (last - (round + 1)) (state.tick + time σ one)

      first : rounds σ a (last - round) state.tick ≡ one ⧺ rest
      first =
          let m : last - round ≡ suc (last - (round + 1)) = omega arith in
          ap (λ (j : ℕ). rounds σ a j state.tick) m
          ∙ rounds_first σ W.rounding.ready.laying.settings.fits a (last - (round + 1)) state.tick (body_form loop) W.rounding.ready.free

      split : Writing σ all (one ⧺ others) from state old new
      split = writing_same W.writing (alike_eq (
          ap (λ (c : Block). c ⧺ ending) first ∙ ⧺-assoc one rest ending))

      -- the meetings in this round, and those in the others
      both : Holds (meetings σ one state.tick ++ meetings σ rest (state.tick + time σ one)) n table
      both = subst (λ (ms : List ℕ). Holds ms n table) (ap (λ (c : Block). meetings σ c state.tick) first ∙ meetings-⧺ σ one rest state.tick) W.holds

      soon : state.tick + time σ one ≤ σ.period
      soon = omega (arith, the_loop.within, split.same.lasts, time-⧺ σ split.done (one ⧺ others), time-⧺ σ one others, split.after.tick)

      -- the next byte is at n
      pub body_fits : {m : ℕ} → m ≡ laid_bytes from state → BlockFits s (i + 1) to σ state n table (lent new m)
      unfolding body_entered
      body_fits h = rw h (record {
        entered = body_entered W.rounding;
        fits = record { within = soon; room = writing_room one others split };
        holds = holds_left (meetings σ one state.tick) (meetings σ rest (state.tick + time σ one)) both;
      })

      module _ {m : ℕ} (h : m ≡ laid_bytes from state) {ys : List ℕ} {r : Passage} (B' : BlockLaid s (i + 1) to σ state n (lent new m) ys r) where
        B : BlockLaid s (i + 1) to σ state n (lent new (laid_bytes from state)) ys r
        B = subst (λ (v : ℕ). BlockLaid s (i + 1) to σ state n (lent new v) ys r) h B'

        laid_one : LaysTo σ one (i + 1 + size a) n state (lent new (laid_bytes from state)) ys r
        laid_one = B.right a (opened loop).first

        more_meetings : meetings σ (rounds σ a (round + 1) from.tick) from.tick ≡ meetings σ (rounds σ a round from.tick) from.tick ++ meetings σ one state.tick
        more_meetings =
            ap (λ (c : Block). meetings σ c from.tick) (more W.rounding l (block_passed B))
            ∙ meetings-⧺ σ (rounds σ a round from.tick) one from.tick
            ∙ ap (λ (t : ℕ). meetings σ (rounds σ a round from.tick) from.tick ++ meetings σ one t) (sym W.rounding.after.tick)

        pub rounds_next : WritingRounds r.state r.next (round + 1) r.ifs (back new m ys)
        rounds_next = subst (λ (v : ℕ). WritingRounds r.state r.next (round + 1) r.ifs (back new v ys)) (sym h) (record {
          rounding = rounding_next W.rounding l (block_passed B) (omega (arith, soon, laid_one.lays.after.tick));
          writing = subst (λ (t : ℕ). Writing σ all (rounds σ a (last - (round + 1)) t ⧺ ending) from r.state old (back new (laid_bytes from state) ys))
              (sym laid_one.lays.after.tick) (writing_next one others split laid_one.lays);
          ifs = omega (
            arith,
            W.ifs,
            laid_one.ifs,
            ap length more_meetings,
            length-append (meetings σ (rounds σ a round from.tick) from.tick) (meetings σ one state.tick),
          );
          holds = subst (λ (t : ℕ). Holds (meetings σ (rounds σ a (last - (round + 1)) t) t) r.ifs table) (sym laid_one.lays.after.tick)
              (subst (λ (v : ℕ). Holds (meetings σ rest (state.tick + time σ one)) v table) (sym laid_one.ifs)
              (holds_right (meetings σ one state.tick) (meetings σ rest (state.tick + time σ one)) both));
        })

    -- THE CHECK

    module _ (l : last ≤ round) where
      done : round ≡ last
      done = omega (arith, W.rounding.upto)

      at_check : check_tick loop ≡ state.tick
      at_check = sym (W.rounding.after.tick ∙ ap (λ (n : ℕ). from.tick + time σ (rounds σ a n from.tick)) done)

      final : Writing σ all (check_from state.tick ⧺ nil) from state old new
      final = writing_same W.writing (alike_eq (
          ap (λ (n : ℕ). rounds σ a n state.tick ⧺ ending) none
          ∙ ap (λ (c : Block). c ⧺ ending) (rounds_none σ a state.tick)
          ∙ ap check_from at_check
          ∙ sym (⧺-nil (check_from state.tick))))
        where
          none : last - round ≡ 0
          none = omega arith

      module _ {x : Rec} (e : x ≡ act_rec (check (test loop))) {m : ℕ} (h : m ≡ laid_bytes from state) where
        pub check_fits : length (step_bytes σ state 1 x) ≤ length (lent new m)
        check_fits = rw h (step_fits σ 1 (check (test loop)) e (writing_room (check_from state.tick) nil final))

        pub rounds_laid : {ys : List ℕ} {r : State} → StepLaid σ state 1 x (lent new m) ys r
            → StatementLaid s i to σ from p old (back new m ys) (record { state = r; next = next + 1; ifs = n })
        rounds_laid {ys} {r} L' =
            let L = subst (λ (v : ℕ). StepLaid σ state 1 x (lent new v) ys r) h L' in
            subst (λ (v : ℕ). StatementLaid s i to σ from p old (back new v ys) (record { state = r; next = next + 1; ifs = n })) (sym h)
            (answered_as F.fits (times_as loop)
            (record {
              lays = writing_end (writing_next (check_from state.tick) nil final (step_lays σ 1 (check (test loop)) e refl L));
              goes = omega (arith, at_end W.rounding l);
              ifs = W.ifs ∙ ap (λ (v : ℕ). p + length (meetings σ (rounds σ a v from.tick) from.tick)) done ∙ ap (λ (ms : List ℕ). p + length ms) (sym the_meetings);
            }))

-- all that is known at a turn of the loop
pub record WritingLoop (s : List ℕ) (i to : ℕ) (σ : Settings) (from : State) (p : ℕ) (table old : List ℕ) (last : ℕ) (state : State) (next round n : ℕ) (new : List ℕ) : Type 0 where
  pub loop_fits : LoopFits s i to σ from p table old last
  pub turn : WritingRounds loop_fits state next round n new

pub loop_start : {s : List ℕ} {i to : ℕ} {σ : Settings} {from : State} {p : ℕ} {table old : List ℕ} {last : ℕ} → LoopFits s i to σ from p table old last
    → WritingLoop s i to σ from p table old last from (i + 1) 0 p old
loop_start F = record { loop_fits = F; turn = rounds_start F }
