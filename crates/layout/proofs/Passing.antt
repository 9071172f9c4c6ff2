-- Measuring a block statement by statement: what is laid, what is left, and what a tick above P says.
use Prim.Native.Nat.{ℕ, ◌+◌, ◌≤◌, ◌<◌}
use native.Mathlib.Omega.{arith}
use mathlib.Core.Path.{◌≡◌, refl, ap, sym, subst, ◌∙◌}
use mathlib.Core.{Bool.Bool, Bool.true, Bool.false, List.List}
use lib.Dec.{ltb}
use borrow.Author.Tests.{ltb-true, ltb-false}
use Rattle.model.specs.declared.Form.TheVariants.{Equalised}
use Rattle.model.specs.declared.Settings.{Settings}
use Rattle.model.specs.{Records.kind_at, Times.time}
use Rattle.model.specs.Trees.{Block, nil, ◌⧺◌, size}
use Rattle.theory.specs.Windows.{Free}
use Rattle.laws.proofs.Trees.{⧺-nil, ⧺-assoc}
use Rattle.theory.proofs.{Times.time-⧺}
use Rattle.reading.specs.{Closing.closes_block, Walks.Walk}
use Rattle.reading.specs.Ranges.{InFile, first_size, after_first}
use Rattle.reading.proofs.Walking.{every, walk_start, walk_end, walk_at, walk_on, walk_next}
use Rattle.placing.specs.declared.clock.State.{State}
use Rattle.layout.specs.declared.measure.Passage.{Passage}
use Rattle.placing.specs.States.{Laying, After}
use Rattle.layout.specs.Ranges.{only}
use Rattle.layout.specs.Measured.{laid, Passes, Ready, Entered, Statement, BlockPassed, StatementPassed}
use Rattle.placing.proofs.Going.{after_nil, after-⧺}
use Rattle.layout.proofs.Unrolled.{only_form, laid_first, laid_nil, laid_free}

-- WHAT AN ANSWER SAYS

module _ {σ : Settings} {c : Block} {j : ℕ} {s : State} {r : Passage} where
  -- a tick up to P is where c ends
  pub in_time : Passes σ c j s r → r.state.tick ≤ σ.period → s.tick + time σ c ≤ σ.period
  in_time P h = go (ltb σ.period (s.tick + time σ c)) refl
    where
      go : (o : Bool) → ltb σ.period (s.tick + time σ c) ≡ o → s.tick + time σ c ≤ σ.period
      go true e = let l : σ.period < r.state.tick = P.late (ltb-true σ.period (s.tick + time σ c) e) in absurd (omega arith)
      go false e = ltb-false σ.period (s.tick + time σ c) e

  -- and one above P says that c ends above it
  pub too_late : Passes σ c j s r → σ.period < r.state.tick → σ.period < s.tick + time σ c
  too_late P h = go (ltb σ.period (s.tick + time σ c)) refl
    where
      go : (o : Bool) → ltb σ.period (s.tick + time σ c) ≡ o → σ.period < s.tick + time σ c
      go true e = ltb-true σ.period (s.tick + time σ c) e
      go false e =
          let l = ltb-false σ.period (s.tick + time σ c) e in
          absurd (omega (arith, (P.after l).tick))

  -- where c is known to be laid, nothing more is to be said
  pub passed : After σ c s r.state → r.next ≡ j → Passes σ c j s r
  passed A g = record { late = λ h. omega (arith, A.tick); after = λ h. A; goes = λ h. g }

  pub passed_late : σ.period < s.tick + time σ c → σ.period < r.state.tick → Passes σ c j s r
  passed_late h l = record { late = λ x. l; after = λ x. absurd (omega arith); goes = λ x. absurd (omega arith) }

-- a state within P from which laying out goes on
pub laying_on : {σ : Settings} {c : Block} {s r : State} → Laying σ s → After σ c s r → r.tick ≤ σ.period → Laying σ r
laying_on L A h = record { settings = L.settings; shows = A.shows; within = h }

-- THE TURNS OF THE LOOP

-- of the block at `from`, laid from `at` on, the records from `next` on are left
pub record Passing (s : List ℕ) (from to : ℕ) (σ : Settings) (at state : State) (next : ℕ) : Type 0 where
  pub all : InFile Equalised s from to
  pub walk : Walk all next
  pub ready : Ready σ state
  pub done : Block
  pub same : laid σ all.block at.tick ≡ done ⧺ laid σ walk.rest.block state.tick
  pub after : After σ done at state

unfoldable pub passing_start : {s : List ℕ} {from to : ℕ} {σ : Settings} {at : State} → Entered s from to σ at → Passing s from to σ at at from
passing_start E = record { all = E.file; walk = walk_start E.file; ready = E.ready; done = nil; same = refl; after = after_nil E.ready.laying.shows }

module _ {s : List ℕ} {from to : ℕ} {σ : Settings} {at state : State} {next : ℕ} (P : Passing s from to σ at state next) where
  abbrev pub left : Block
  left = P.walk.rest.block

  -- what holds of the block that was asked about holds of every block at its place
  answered : {r : Passage} → Passes σ (laid σ P.all.block at.tick) (from + size P.all.block) at r → BlockPassed s from to σ at r
  answered {r} A = record { right = every (λ (x : Block). Passes σ (laid σ x at.tick) (from + size x) at r) P.all A }

  -- what is left is its first statement and what follows it
  abbrev pub one : Block
  one = laid σ (only left) state.tick

  abbrev pub two : Block
  two = laid σ (after_first left) (state.tick + time σ one)

  pub first : laid σ left state.tick ≡ one ⧺ two
  first = laid_first σ P.ready.laying.settings.fits left state.tick P.walk.rest.stands.fills.of_form P.ready.free

  pub split : laid σ P.all.block at.tick ≡ (P.done ⧺ one) ⧺ two
  split = P.same ∙ ap (λ (c : Block). P.done ⧺ c) first ∙ sym (⧺-assoc P.done one two)

  -- nothing is left
  pub all_done : left ≡ nil → laid σ P.all.block at.tick ≡ P.done
  all_done e = P.same ∙ ap (λ (b : Block). P.done ⧺ laid σ b state.tick) e ∙ ap (λ (c : Block). P.done ⧺ c) (laid_nil σ state.tick) ∙ ⧺-nil P.done

  pub passing_done : {m : ℕ} → left ≡ nil → BlockPassed s from to σ at (record { state = state; next = next; ifs = m })
  passing_done e = answered (passed (subst (λ (c : Block). After σ c at state) (sym (all_done e)) P.after) (walk_end P.walk e))

  -- a statement is left
  module _ (l : next < to) (k : closes_block (kind_at s next) ≡ false) where
    unfoldable pub statement_next : Statement s next to σ state
    statement_next = record { here = walk_at P.walk l k; ready = P.ready }

    module _ {r : Passage} (S : StatementPassed s next to σ state r) where
      step : Passes σ one (next + first_size left) state r
      step = S.right left P.walk.rest.stands

      lasts : at.tick + time σ (laid σ P.all.block at.tick) ≡ state.tick + time σ one + time σ two
      lasts = omega (arith, ap (time σ) split, time-⧺ σ (P.done ⧺ one) two, time-⧺ σ P.done one, P.after.tick)

      pub passing_late : σ.period < r.state.tick → BlockPassed s from to σ at r
      passing_late h = answered (passed_late (omega (arith, lasts, too_late step h)) h)

      module _ (h : r.state.tick ≤ σ.period) where
        pub stepped : After σ one state r.state
        stepped = step.after (in_time step h)

        pub goes : r.next ≡ next + first_size left
        goes = step.goes (in_time step h)

        pub passing_on : next < r.next
        passing_on = walk_on P.walk l k goes

        unfoldable pub passing_next : Passing s from to σ at r.state r.next
        passing_next = record {
          all = P.all;
          walk = walk_next P.walk l k goes;
          ready = record {
            laying = laying_on P.ready.laying stepped h;
            free = subst (Free σ 0) (sym stepped.tick) (laid_free σ P.ready.laying.settings.fits (only left) 0 state.tick
                (only_form left P.walk.rest.stands.fills.of_form) (omega arith) P.ready.free);
          };
          done = P.done ⧺ one;
          same = split ∙ ap (λ (t : ℕ). (P.done ⧺ one) ⧺ laid σ (after_first left) t) (sym stepped.tick);
          after = after-⧺ P.done one P.after stepped;
        }
