-- The loops run round by round: what is left of one, and what its tests say.
use Prim.Native.Nat.{ℕ, suc, ◌+◌, ◌-◌, ◌≤◌, ◌<◌}
use native.Mathlib.{Nat.sub-zero, Omega.arith}
use mathlib.Core.Path.{◌≡◌, refl, ap, sym, ◌∙◌}
use mathlib.Core.Bool.{Bool, true, false, cond, not}
use mathlib.Core.List.{List, [], ◌++◌}
use borrow.Author.Tests.{not-true, not-false}
use Rattle.model.specs.declared.Settings.{Settings}
use Rattle.model.specs.Records.{Rec, kind_at, record_at, WHILE, TIMES}
use Rattle.model.specs.Trees.{Block, nil, while, times, size}
use Rattle.model.specs.Runs.{Step, overran, variables_after, holds, last_test, Run, ◌⊳◌, single, spin, rounds, run}
use Rattle.theory.proofs.Sequences.{⊳-assoc, ⊳-nil}
use Rattle.reading.specs.Closing.{opens_block}
use Rattle.reading.specs.Ranges.{first_size, first_part, after_first, test_of}
use Rattle.reading.proofs.Filled.{fills_none}
use Rattle.reading.proofs.Walking.{open_at, first_in_is, while_at, times_at}
use Rattle.std.proofs.Common.{Result, Ok, Err}
use Rattle.stepping.specs.declared.{progress.Place.Place, progress.Halt.Halt, store.Store.Store}
use Rattle.stepping.specs.{Machines.held, Machines.runs, Steps.going, Steps.Ran}
use Rattle.running.specs.Promises.{closing, at_end, Chain, first_run, Begun, Statement, RecordsRan, StatementRan}
use Rattle.running.proofs.Doing.{spin_cut, spin_end, spin_round, rounds_nothing}
use Rattle.running.proofs.Running.{runs_same, given_at, onward, cut_at, never, next_is, ran_early, ran_on, ran_halted, ran_from}
use Rattle.running.proofs.{RunningSteps.block, RunningSteps.told, Sides.closing_is}

-- A LOOP AND ITS BODY

module _ {s : List ℕ} {i : ℕ} {ends ins : List ℕ} {limit t₀ : ℕ} (S : Statement s i ends ins limit t₀) where
  abbrev pub body : Block
  body = first_part (block S)

  -- it ends at the record that closes it
  body_ends : opens_block (kind_at s i) ≡ true → closing s i ≡ i + 1 + size body
  body_ends o = closing_is i body (open_at S.at o).first

-- the loop at i, with the record r, has done its rounds up to `round` of `last` at tick t; left r n f is n rounds of the body f, and the last test
pub record Looping (s : List ℕ) (i : ℕ) (ends : List ℕ) (r : Rec) (σ : Settings) (ins : List ℕ) (limit t₀ : ℕ) (old w : Store) (t to last round next : ℕ)
    (left : Rec → ℕ → Run → Run) : Type 0 where
  pub loop : Statement s i ends ins limit t₀
  pub opens : opens_block (kind_at s i) ≡ true
  pub ends_at : to ≡ i + 1 + size (body loop)
  pub behind : next ≡ i + first_size (block loop)
  pub early : t ≤ limit
  pub same : runs limit (first_run σ ins (block loop) i) (going t₀ old) ≡ runs limit (left r (last - round) (run σ ins (body loop) (i + 1))) (going t w)

looping : {s : List ℕ} {i : ℕ} {ends : List ℕ} {r : Rec} {σ : Settings} {ins : List ℕ} {limit t : ℕ} {w : Store} {to last next : ℕ} {left : Rec → ℕ → Run → Run}
    (S : Statement s i ends ins limit t) → opens_block (kind_at s i) ≡ true → to ≡ closing s i → next ≡ to + 1
    → (b : Block) → block S ≡ b → first_size b ≡ 2 + size (body S)
    → ((v : List ℕ) → first_run σ ins b i v ≡ left r (last - 0) (run σ ins (body S) (i + 1)) v) → Looping s i ends r σ ins limit t w w t to last 0 next left
looping {i = i} {σ = σ} {ins = ins} {limit = limit} {t = t} {w = w} S o c n b is z h = record {
  loop = S;
  opens = o;
  ends_at = c ∙ body_ends S o;
  behind = omega (arith, n, c, body_ends S o, z, ap first_size is);
  early = S.given.early;
  same = ap (λ (y : Block). runs limit (first_run σ ins y i) (going t w)) is ∙ runs_same limit (going t w) h;
}

module _ {s : List ℕ} {i : ℕ} {ends : List ℕ} {r : Rec} {σ : Settings} {ins : List ℕ} {limit t₀ : ℕ} {old w : Store} {t to last round next : ℕ}
    {left : Rec → ℕ → Run → Run} (P : Looping s i ends r σ ins limit t₀ old w t to last round next left) where
  abbrev pub inner : Run
  inner = run σ ins (body P.loop) (i + 1)

  abbrev pub rest : ℕ
  rest = last - (round + 1)

  as_many : (n : ℕ) → last - round ≡ n → runs limit (first_run σ ins (block P.loop) i) (going t₀ old) ≡ runs limit (left r n inner) (going t w)
  as_many n z = P.same ∙ ap (λ (m : ℕ). runs limit (left r m inner) (going t w)) z

  -- what holds of what is left is the answer
  answered : {g : Run} {u : ℕ} {mid new : Store} {p : Result Place Halt} → runs limit (first_run σ ins (block P.loop) i) (going t₀ old) ≡ runs limit g (going u mid)
      → Ran limit g next u mid new p → StatementRan s i σ ins limit t₀ old new p
  answered e R = told P.loop (block P.loop) refl (ran_from e (λ x o. P.behind) R)

  pub loop_last : {p : Result Place Halt} → last ≤ round → Ran limit (left r 0 inner) next t w w p → StatementRan s i σ ins limit t₀ old w p
  loop_last l R = answered (as_many 0 (omega arith)) R

  abbrev body_chain : Chain P.loop.form s (i + 1) to
  body_chain = record { file = first_in_is P.loop.at P.opens; pending = []; follows = at_end (sym P.ends_at) }

  -- the body is run from tick u on
  pub loop_entered : {u : ℕ} → u ≤ limit → Begun s (i + 1) to ends ins limit u
  loop_entered h = record { given = given_at P.loop.given h; form = P.loop.form; chain = body_chain }

  -- a round is left
  module _ (l : round < last) where
    one_more : runs limit (first_run σ ins (block P.loop) i) (going t₀ old) ≡ runs limit (left r (suc rest) inner) (going t w)
    one_more = as_many (suc rest) (omega arith)

    module _ {u : ℕ} (h : u ≤ limit) (turned : runs limit (left r (suc rest) inner) (going t w) ≡ runs limit (inner ⊳ left r rest inner) (going u w))
        {new : Store} {e : Result Place Halt} (B : RecordsRan s (i + 1) to σ ins limit u w new e) where
      round_ran : Ran limit inner to u w new e
      round_ran =
          ran_from (runs_same limit (going u w) (λ v. sym (⊳-nil inner v))) (λ x o. refl)
          (B.right P.loop.form body_chain)

      pub loop_halted : {h : Halt} → e ≡ Err h → StatementRan s i σ ins limit t₀ old new e
      loop_halted y = answered (one_more ∙ turned) (ran_halted round_ran (left r rest inner) next y)

      pub loop_next : {p : Place} → e ≡ Ok p → Looping s i ends r σ ins limit t₀ old new p.tick to last (round + 1) next left
      loop_next y = record {
        loop = P.loop;
        opens = P.opens;
        ends_at = P.ends_at;
        behind = P.behind;
        early = ran_early round_ran h y;
        same = one_more ∙ turned ∙ ran_on round_ran (left r rest inner) y;
      }

-- WHILE

abbrev pub spinning : ℕ → Rec → ℕ → Run → Run
spinning i r n f = spin i n (test_of r) f

pub spinning_start : {s : List ℕ} {i : ℕ} {ends : List ℕ} {r : Rec} {σ : Settings} {ins : List ℕ} {limit t : ℕ} {w : Store} {to next : ℕ}
    → Statement s i ends ins limit t → kind_at s i ≡ WHILE → r ≡ record_at s i → to ≡ closing s i → next ≡ to + 1
    → Looping s i ends r σ ins limit t w w t to r.count 0 next (spinning i)
spinning_start {s} {i} {r = r} {σ} {ins} S k h c n =
    looping S (ap opens_block k) c n (while (test_of r) r.count (body S) (after_first (block S)))
    (while_at S.at k ∙ ap (λ (y : Rec). while (test_of y) y.count (body S) (after_first (block S))) (sym h)) refl
    (λ v. ap (λ (m : ℕ). spinning i r m (run σ ins (body S) (i + 1)) v) (sym (sub-zero r.count)))

module _ {s : List ℕ} {i : ℕ} {ends : List ℕ} {r : Rec} {σ : Settings} {ins : List ℕ} {limit t₀ : ℕ} {old w : Store} {t to round next : ℕ}
    (P : Looping s i ends r σ ins limit t₀ old w t to r.count round next (spinning i)) (l : round < r.count) where
  pub spinning_cut : limit ≤ t → StatementRan s i σ ins limit t₀ old w (cut_at t)
  spinning_cut h =
      answered P (one_more P l)
      (record {
        reaches = sym (spin_cut limit t (held w) i (rest P) (test_of r) (inner P) h);
        goes = λ p o. never refl o;
      })

  module _ (h : t < limit) {o : Bool} (q : o ≡ holds (test_of r) (held w).variables) where
    pub spinning_over : not o ≡ true → StatementRan s i σ ins limit t₀ old w (onward (t + 1) next)
    spinning_over n =
        answered P (one_more P l)
        (record {
          reaches = sym (spin_end limit t (held w) i (rest P) (test_of r) (inner P) h (sym q ∙ not-true o n));
          goes = λ p e. next_is e;
        })

    pub spinning_turned : not o ≡ false
        → runs limit (spinning i r (suc (rest P)) (inner P)) (going t w) ≡ runs limit (inner P ⊳ spinning i r (rest P) (inner P)) (going (t + 1) w)
    spinning_turned n = spin_round limit t (held w) i (rest P) (test_of r) (inner P) h (sym q ∙ not-false o n)

-- TIMES

abbrev pub turning : ℕ → Rec → ℕ → Run → Run
turning i r n f = rounds n f ⊳ single 1 i (last_test (test_of r))

times_is : {s : List ℕ} {i : ℕ} {ends : List ℕ} {r : Rec} {ins : List ℕ} {limit t : ℕ} (S : Statement s i ends ins limit t) → kind_at s i ≡ TIMES → r ≡ record_at s i
    → block S ≡ times (test_of r) r.count (body S) (after_first (block S))
times_is S k h = times_at S.at k ∙ ap (λ (y : Rec). times (test_of y) y.count (body S) (after_first (block S))) (sym h)

pub turning_start : {s : List ℕ} {i : ℕ} {ends : List ℕ} {r : Rec} {σ : Settings} {ins : List ℕ} {limit t : ℕ} {w : Store} {to next : ℕ}
    → Statement s i ends ins limit t → kind_at s i ≡ TIMES → r ≡ record_at s i → to ≡ closing s i → next ≡ to + 1
    → Looping s i ends r σ ins limit t w w t to r.count 0 next (turning i)
turning_start {s} {i} {r = r} {σ} {ins} S k h c n =
    looping S (ap opens_block k) c n (times (test_of r) r.count (body S) (after_first (block S))) (times_is S k h) refl
    (λ v. ap (λ (m : ℕ). turning i r m (run σ ins (body S) (i + 1)) v) (sym (sub-zero r.count)))

-- of an empty body no rounds are walked
pub times_empty : {s : List ℕ} {i : ℕ} {ends : List ℕ} {r : Rec} {σ : Settings} {ins : List ℕ} {limit t : ℕ} {w : Store} {to : ℕ} {p : Result Place Halt}
    (S : Statement s i ends ins limit t) → kind_at s i ≡ TIMES → r ≡ record_at s i → to ≡ closing s i → to ≡ i + 1
    → Ran limit (single 1 i (last_test (test_of r))) (to + 1) t w w p → StatementRan s i σ ins limit t w w p
times_empty {s} {i} {r = r} {σ} {ins} {limit} {t} {w} S k h c e R =
    let none = fills_none (body S) (open_at S.at (ap opens_block k)).first.fills (omega (arith, body_ends S (ap opens_block k))) in
    let q = test_of r in
    told S (times q r.count nil (after_first (block S))) (times_is S k h ∙ ap (λ (a : Block). times q r.count a (after_first (block S))) none)
    (ran_from
    (runs_same limit (going t w)
    (λ v. ap (λ (es : List Step). es ++ cond (overran es) [] (single 1 i (last_test q) (variables_after es v))) (rounds_nothing r.count v)))
    (λ x o. omega arith) R)

module _ {s : List ℕ} {i : ℕ} {ends : List ℕ} {r : Rec} {σ : Settings} {ins : List ℕ} {limit t₀ : ℕ} {old w : Store} {t to last round next : ℕ}
    (P : Looping s i ends r σ ins limit t₀ old w t to last round next (turning i)) where
  pub turning_turned : runs limit (turning i r (suc (rest P)) (inner P)) (going t w) ≡ runs limit (inner P ⊳ turning i r (rest P) (inner P)) (going t w)
  turning_turned = runs_same limit (going t w) (⊳-assoc (inner P) (rounds (rest P) (inner P)) (single 1 i (last_test (test_of r))))
