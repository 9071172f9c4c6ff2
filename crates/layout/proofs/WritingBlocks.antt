-- Writing a block statement by statement: what is laid and what is left, turn by turn.
use Prim.Native.Nat.{ℕ, ◌+◌, ◌≤◌, ◌<◌}
use native.Mathlib.Omega.{arith}
use mathlib.Core.Path.{◌≡◌, ap, sym, subst, ◌∙◌}
use mathlib.Core.{Bool.true, Bool.false, List.List, List.◌++◌}
use lib.ListN.{length, length-append}
use Rattle.model.specs.declared.Settings.{Settings}
use Rattle.model.specs.{Records.kind_at, Times.time}
use Rattle.model.specs.Trees.{Block, nil, ◌⧺◌, size}
use Rattle.theory.proofs.Times.{time-⧺}
use Rattle.records.proofs.Over.{lent, back}
use Rattle.reading.specs.{Closing.closes_block, Ranges.first_size, Ranges.after_first}
use Rattle.placing.specs.declared.clock.State.{State}
use Rattle.layout.specs.declared.measure.Passage.{Passage}
use Rattle.layout.specs.{Measured.laid, Meetings.meetings, Meetings.Holds}
use Rattle.layout.specs.Written.{BlockFits, StatementFits, LaysTo, BlockLaid, StatementLaid}
use Rattle.placing.proofs.Settling.{alike_eq}
use Rattle.reading.proofs.Walking.{every, none_closed, none_ended, walk_end}
use Rattle.layout.proofs.Noting.{holds_left, holds_right, meetings-⧺}
use Rattle.layout.proofs.{Unrolled.laid_nil, WritingSteps.laid_passed}
use Rattle.placing.proofs.Writing.{laid_bytes, Writing, writing_start, writing_same, writing_room, writing_next, writing_end}
use Rattle.layout.proofs.Passing.{Passing, passing_start, left, all_done, statement_next, one, two, first, passing_on, passing_next}

-- of the block at `from`, laid from `at` on, the records from `next` on are left
pub record WritingBlock (s : List ℕ) (from to : ℕ) (σ : Settings) (at state : State) (next k n : ℕ) (table old new : List ℕ) : Type 0 where
  pub passing : Passing s from to σ at state next
  pub within : at.tick + time σ (laid σ passing.all.block at.tick) ≤ σ.period
  pub writing : Writing σ (laid σ passing.all.block at.tick) (laid σ passing.walk.rest.block state.tick) at state old new
  pub ifs : n ≡ k + length (meetings σ passing.done at.tick)
  pub holds : Holds (meetings σ (laid σ passing.walk.rest.block state.tick) state.tick) n table

pub block_start : {s : List ℕ} {from to : ℕ} {σ : Settings} {at : State} {k : ℕ} {table old : List ℕ} → BlockFits s from to σ at k table old
    → WritingBlock s from to σ at at from k k table old old
unfolding passing_start
block_start F = record {
  passing = passing_start F.entered;
  within = F.fits.within;
  writing = writing_start F.entered.ready.laying.shows F.fits.room;
  ifs = omega arith;
  holds = F.holds;
}

module _ {s : List ℕ} {from to : ℕ} {σ : Settings} {at state : State} {next k n : ℕ} {table old new : List ℕ} (W : WritingBlock s from to σ at state next k n table old new) where
  abbrev P : Passing s from to σ at state next
  P = W.passing

  -- nothing is left
  ended : left P ≡ nil → BlockLaid s from to σ at k old new (record { state = state; next = next; ifs = n })
  ended e = record {
    right = every (λ (x : Block). LaysTo σ (laid σ x at.tick) (from + size x) k at old new (record { state = state; next = next; ifs = n })) P.all
        (record {
          lays = writing_end (writing_same W.writing (alike_eq (ap (λ (b : Block). laid σ b state.tick) e ∙ laid_nil σ state.tick)));
          goes = walk_end P.walk e;
          ifs = W.ifs ∙ ap (λ (c : Block). k + length (meetings σ c at.tick)) (sym (all_done P e));
        });
  }

  pub block_closed : closes_block (kind_at s next) ≡ true → BlockLaid s from to σ at k old new (record { state = state; next = next; ifs = n })
  block_closed c = ended (none_closed P.walk c)

  pub block_ended : to ≤ next → BlockLaid s from to σ at k old new (record { state = state; next = next; ifs = n })
  block_ended l = ended (none_ended P.walk l)

  -- a statement is left
  module _ (l : next < to) (c : closes_block (kind_at s next) ≡ false) where
    split : Writing σ (laid σ P.all.block at.tick) (one P ⧺ two P) at state old new
    split = writing_same W.writing (alike_eq (first P))

    -- the meetings in the statement, and those after it
    both : Holds (meetings σ (one P) state.tick ++ meetings σ (two P) (state.tick + time σ (one P))) n table
    both = subst (λ (ms : List ℕ). Holds ms n table) (ap (λ (c : Block). meetings σ c state.tick) (first P) ∙ meetings-⧺ σ (one P) (two P) state.tick) W.holds

    in_time : state.tick + time σ (one P) ≤ σ.period
    in_time = omega (arith, W.within, split.same.lasts, time-⧺ σ split.done (one P ⧺ two P), time-⧺ σ (one P) (two P), split.after.tick)

    -- the next byte is at n
    module _ {m : ℕ} (h : m ≡ laid_bytes at state) where
      pub statement_fits : StatementFits s next to σ state n table (lent new m)
      unfolding statement_next
      statement_fits = rw h (record {
        statement = statement_next P l c;
        fits = record { within = in_time; room = writing_room (one P) (two P) split };
        holds = holds_left (meetings σ (one P) state.tick) (meetings σ (two P) (state.tick + time σ (one P))) both;
      })

    module _ {m : ℕ} (h : m ≡ laid_bytes at state) {ys : List ℕ} {r : Passage} (S' : StatementLaid s next to σ state n (lent new m) ys r) where
      S : StatementLaid s next to σ state n (lent new (laid_bytes at state)) ys r
      S = subst (λ (v : ℕ). StatementLaid s next to σ state n (lent new v) ys r) h S'

      laid_one : LaysTo σ (one P) (next + first_size (left P)) n state (lent new (laid_bytes at state)) ys r
      laid_one = S.right (left P) P.walk.rest.stands

      soon : r.state.tick ≤ σ.period
      soon = omega (arith, in_time, laid_one.lays.after.tick)

      pub block_on : next < r.next
      block_on = passing_on P l c (laid_passed S) soon

      pub block_next : WritingBlock s from to σ at r.state r.next k r.ifs table old (back new m ys)
      unfolding passing_next
      block_next = subst (λ (v : ℕ). WritingBlock s from to σ at r.state r.next k r.ifs table old (back new v ys)) (sym h) (record {
        passing = passing_next P l c (laid_passed S) soon;
        within = W.within;
        writing = subst (λ (t : ℕ). Writing σ (laid σ P.all.block at.tick) (laid σ (after_first (left P)) t) at r.state old (back new (laid_bytes at state) ys))
            (sym laid_one.lays.after.tick) (writing_next (one P) (two P) split laid_one.lays);
        ifs = omega (arith, W.ifs, laid_one.ifs, ap length counted, length-append (meetings σ P.done at.tick) (meetings σ (one P) state.tick));
        holds = subst (λ (t : ℕ). Holds (meetings σ (laid σ (after_first (left P)) t) t) r.ifs table) (sym laid_one.lays.after.tick)
            (subst (λ (v : ℕ). Holds (meetings σ (two P) (state.tick + time σ (one P))) v table) (sym laid_one.ifs)
            (holds_right (meetings σ (one P) state.tick) (meetings σ (two P) (state.tick + time σ (one P))) both));
      })
        where
          counted : meetings σ (P.done ⧺ one P) at.tick ≡ meetings σ P.done at.tick ++ meetings σ (one P) state.tick
          counted = meetings-⧺ σ P.done (one P) at.tick ∙ ap (λ (t : ℕ). meetings σ P.done at.tick ++ meetings σ (one P) t) (sym P.after.tick)
