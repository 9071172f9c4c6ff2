-- What the functions that do one step of a run answer.
use Rattle.std.specs.Prelude.{◌≡◌, ℕ, Bool, true, false, cond, List, ◌==◌, nat_lt, Result, Ok, Err}
use Rattle.model.specs.Records.{Rec}
use Rattle.model.specs.Runs.{is_overrun, Run}
use Rattle.stepping.specs.declared.progress.Place.{Place}
use Rattle.stepping.specs.declared.progress.Halt.{Halt}
use Rattle.stepping.specs.declared.progress.Halt.TheVariants.{Cut, Overran}
use Rattle.stepping.specs.declared.store.Store.{Store}
use Rattle.stepping.specs.Machines.{held, affect, Machine, machine, runs, record_effect}

-- less, equal or more
abbrev pub ordered : ℕ → ℕ → ℕ
ordered a b = cond (nat_lt a b) 0 (cond (a == b) 1 2)

-- the machine at tick t, and where a function left it
abbrev pub going : ℕ → Store → Machine
going t w = machine t false false (held w)

abbrev pub reached : Result Place Halt → Store → Machine
reached (Ok p) w = machine p.tick false false (held w)
reached (Err (Cut t)) w = machine t true false (held w)
reached (Err (Overran t)) w = machine t false true (held w)

-- one record's effect, and whether the run overran
pub record Acts (ins : List ℕ) (r : Rec) (next t : ℕ) (old new : Store) (o : Bool) : Type 0 where
  pub holds : held new ≡ affect next t (record_effect ins r (held old).variables) (held old)
  pub overran : o ≡ is_overrun (record_effect ins r (held old).variables)

-- a run f of the records up to j
pub record Ran (limit : ℕ) (f : Run) (j t : ℕ) (old new : Store) (r : Result Place Halt) : Type 0 where
  pub reaches : reached r new ≡ runs limit f (going t old)
  pub goes : (p : Place) → r ≡ Ok p → p.next ≡ j
