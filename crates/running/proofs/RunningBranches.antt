-- What closes a block, and an IF: its test, and the side that it chooses.
use Prim.Native.Nat.{ℕ, ◌+◌, ◌≤◌, ◌<◌}
use native.Mathlib.Omega.{arith}
use mathlib.Core.Path.{◌≡◌, refl, ap, sym, subst, ◌∙◌}
use mathlib.Core.{Bool.Bool, Bool.true, Bool.false, List.List, List.◌∷◌}
use Rattle.model.specs.declared.Settings.{Settings}
use Rattle.model.specs.Records.{Rec, kind_at, record_at, IF}
use Rattle.model.specs.Trees.{Test, Block, branch, size}
use Rattle.model.specs.Runs.{holds, Run, ◌⊳◌, choose, run}
use Rattle.reading.specs.Closing.{closes_block}
use Rattle.reading.specs.Ranges.{Stands, first_size, first_part, second_part, after_first, test_of}
use Rattle.reading.proofs.Walking.{if_at}
use Rattle.stepping.specs.declared.store.Store.{Store}
use Rattle.stepping.specs.{Machines.held, Machines.runs, Steps.going}
use Rattle.running.specs.Promises.{extent, passed, chosen, first_run, ahead, Begun, Running, Past}
use Rattle.running.proofs.Doing.{choose_then, choose_cut, choose_first, choose_second}
use Rattle.running.proofs.Sides.{pending_at, second_at, side, side_there, side_after, side_passed, side_pending}
use Rattle.running.proofs.Running.{runs_same, given_at, onward, cut_at, never, past_halted, running_passed, running_start}
use Rattle.running.proofs.Running.{whole, left, others, answered, running_closed, past_going, here, onwards, split}

-- AN ELSE OR END

pub closed_past : {s : List ℕ} {i to : ℕ} {ends : List ℕ} {σ : Settings} {ins : List ℕ} {limit t : ℕ} {w : Store} {n : ℕ} → Begun s i to ends ins limit t
    → i < to → closes_block (kind_at s i) ≡ true → n ≡ passed s i → Past s i to ends σ ins limit t w w (onward t n)
closed_past B l k h = past_going (running_closed (running_start B) l k h) (running_passed B l k h)

-- AN IF

module _ {s : List ℕ} {from to : ℕ} {ends : List ℕ} {σ : Settings} {ins : List ℕ} {limit t₀ : ℕ} {old w : Store} {t next : ℕ} (P : Running s from to ends σ ins limit t₀ old w t next)
    (l : next < to) (k : kind_at s next ≡ IF) where
  if_goes_on : closes_block (kind_at s next) ≡ false
  if_goes_on = ap closes_block k

  abbrev one : Block
  one = first_part (left P)

  abbrev two : Block
  two = second_part (left P)

  abbrev rest : Block
  rest = after_first (left P)

  abbrev q : Test
  q = test_of (record_at s next)

  abbrev the : Block
  the = branch q one two rest

  is_if : left P ≡ the
  is_if = (if_at (here P l if_goes_on) k).is

  there : Stands P.rest.form s next (extent s) the
  there = subst (Stands P.rest.form s next (extent s)) is_if P.rest.chain.file.stands

  -- what follows the IF
  abbrev g : Run
  g = onwards P l if_goes_on

  -- a side and what follows it
  abbrev first : Run
  first = run σ ins one (next + 1) ⊳ g

  abbrev second : Run
  second = run σ ins two (next + 2 + size one) ⊳ g

  chooses : runs limit (whole P) (going t₀ old) ≡ runs limit (choose next q first second) (going t w)
  chooses =
      split P l if_goes_on ∙ ap (λ (b : Block). runs limit (first_run σ ins b next ⊳ g) (going t w)) is_if
      ∙ runs_same limit (going t w) (choose_then next q (run σ ins one (next + 1)) (run σ ins two (next + 2 + size one)) g)

  pub branch_cut : limit ≤ t → Past s from to ends σ ins limit t₀ old w (cut_at t)
  branch_cut h =
      past_halted
      (answered P (record {
        reaches = sym (chooses ∙ choose_cut limit t (held w) next q first second h);
        goes = λ p o. never refl o;
      }))

  module _ (h : t < limit) {x : Rec} (r : x ≡ record_at s next) {o : Bool} (e : o ≡ holds (test_of x) (held w).variables) {n : ℕ} (f : n ≡ chosen s next o) where
    abbrev to_run : Block
    to_run = side q one two rest there o

    side_chosen : (b : Bool) → o ≡ b → runs limit (choose next q first second) (going t w)
        ≡ runs limit (run σ ins (side q one two rest there b) (chosen s next b) ⊳ g) (going (t + 1) w)
    side_chosen true y = choose_first limit t (held w) next q first second h (ap (λ (c : Rec). holds (test_of c) (held w).variables) (sym r) ∙ sym e ∙ y)
    side_chosen false y =
        choose_second limit t (held w) next q first second h (ap (λ (c : Rec). holds (test_of c) (held w).variables) (sym r) ∙ sym e ∙ y)
        ∙ ap (λ (j : ℕ). runs limit (run σ ins two j ⊳ g) (going (t + 1) w)) (sym (second_at q one two rest there))

    behind_is : next + first_size (left P) ≡ passed s (chosen s next o + size to_run)
    behind_is = omega (arith, ap first_size is_if, side_passed q one two rest there o)

    chosen_next : Running s from to ends σ ins limit t₀ old w (t + 1) (chosen s next o)
    chosen_next = record {
      all = P.all;
      rest = record {
        given = given_at P.rest.given (omega arith);
        form = P.rest.form;
        chain = record {
          file = record { block = to_run; stands = side_there q one two rest there o; inside = omega arith };
          pending = rest ∷ others P;
          follows = side_pending q one two rest there o (pending_at (ap (λ (b : Block). next + size b) is_if) P.rest.chain.follows);
        };
      };
      on = omega (arith, P.on, side_after q one two rest there o);
      same =
          chooses ∙ side_chosen o refl
          ∙ ap (λ (j : ℕ). runs limit (run σ ins to_run (chosen s next o) ⊳ ahead σ ins s j rest (others P)) (going (t + 1) w)) behind_is;
    }

    pub branch_past : Past s from to ends σ ins limit t₀ old w (onward (t + 1) n)
    branch_past =
        past_going (subst (Running s from to ends σ ins limit t₀ old w (t + 1)) (sym f) chosen_next) (omega (arith, P.on, side_after q one two rest there o))
