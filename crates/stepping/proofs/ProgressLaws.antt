-- One step of a run, done or cut at the limit: on the machine, and as the functions answer it.
use Rattle.std.proofs.Common.{◌≡◌, ℕ, ◌+◌, ◌<◌, ◌≤◌, Bool, true, false, cond, List, Result, Ok, Err, sym, refl, ◌∙◌, arith, le-leb}
use borrow.Author.Tests.{lt-leb}
use Rattle.model.specs.{Records.Rec, Trees.Test}
use Rattle.model.specs.Runs.{Effect, nothing, overruns, is_overrun, holds, last_test, single}
use Rattle.stepping.specs.declared.progress.{Place.Place, Halt.Halt}
use Rattle.stepping.specs.declared.store.Store.{Store}
use Rattle.stepping.specs.Machines.{Held, held, affect, Machine, machine, runs, record_effect}
use Rattle.stepping.specs.Steps.{reached, Acts, Ran}

-- ON THE MACHINE, from tick t

module _ (limit t : ℕ) (h : Held) where
  abbrev here : Machine
  here = machine t false false h

  single_cut : (d i : ℕ) (w : List ℕ → Effect) → limit < t + d → runs limit (single d i w) here ≡ machine t true false h
  unfolding runs
  single_cut d i w l = rw (lt-leb (t + d) limit l)

  single_done : (d i : ℕ) (w : List ℕ → Effect) → t + d ≤ limit
      → runs limit (single d i w) here ≡ machine (t + d) false (is_overrun (w h.variables)) (affect (i + 1) (t + d) (w h.variables) h)
  unfolding runs
  single_done d i w l = rw (le-leb (t + d) limit l)

  test_done : (i : ℕ) (q : Test) → t < limit → runs limit (single 1 i (last_test q)) here ≡ machine (t + 1) false (holds q h.variables) h
  test_done i q l = single_done 1 i (last_test q) (omega arith) ∙ go (holds q h.variables)
    where
      go : (o : Bool) → machine (t + 1) false (is_overrun (cond o overruns nothing)) (affect (i + 1) (t + 1) (cond o overruns nothing) h) ≡ machine (t + 1) false o h
      go true = refl
      go false = refl

-- AS IT IS ANSWERED, from tick t

-- the step that ends at tick u, before the record j, overran or goes on
abbrev pub ended : Bool → ℕ → ℕ → Result Place Halt
ended true u j = Err (Halt.Overran u)
ended false u j = Ok (record { tick = u; next = j })

ended_reached : (o : Bool) (u j : ℕ) (w : Store) → reached (ended o u j) w ≡ machine u false o (held w)
ended_reached true u j w = refl
ended_reached false u j w = refl

ended_goes : (o : Bool) (u j : ℕ) (p : Place) → ended o u j ≡ Ok p → p.next ≡ j
ended_goes true u j p e = cc
ended_goes false u j p e = cc

module _ (limit t : ℕ) where
  -- it does not end by the limit
  pub step_cut : (d i j : ℕ) (f : List ℕ → Effect) (w : Store) → limit < t + d → Ran limit (single d i f) j t w w (Err (Halt.Cut t))
  step_cut d i j f w l = record { reaches = sym (single_cut limit t (held w) d i f l); goes = λ p e. cc }

  -- a record that opens and closes no block acts
  pub step_acted : (ins : List ℕ) (r : Rec) (i lasts : ℕ) (old new : Store) (o : Bool) {x : Bool} → Acts ins r (i + 1) (t + lasts) old new x → x ≡ o → t + lasts ≤ limit
      → Ran limit (single lasts i (record_effect ins r)) (i + 1) t old new (ended o (t + lasts) (i + 1))
  step_acted ins r i lasts old new o A e l = record {
    reaches = ended_reached o (t + lasts) (i + 1) new ∙ rw (A.holds, sym e ∙ A.overran) (sym (single_done limit t (held old) lasts i (record_effect ins r) l));
    goes = ended_goes o (t + lasts) (i + 1);
  }

  -- the last test of a loop is done
  pub last_tested : (q : Test) (i j : ℕ) (w : Store) (o : Bool) {x : Bool} → x ≡ holds q (held w).variables → x ≡ o → t < limit
      → Ran limit (single 1 i (last_test q)) j t w w (ended o (t + 1) j)
  last_tested q i j w o e k l = record {
    reaches = ended_reached o (t + 1) j w ∙ rw (sym k ∙ e) (sym (test_done limit t (held w) i q l));
    goes = ended_goes o (t + 1) j;
  }
