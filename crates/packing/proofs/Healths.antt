-- A health's number has room in two bits.
use Prim.Native.Nat.{◌≤◌}
use native.Mathlib.Omega.{arith}
use Rattle.model.specs.declared.Health.{Health}
use Rattle.model.specs.declared.Health.TheVariants.{Waiting, Well, Suspect, Failed}
use Rattle.model.specs.Answers.{health_number}

pub health_small : (h : Health) → health_number h ≤ 3
health_small Waiting = omega arith
health_small Well = omega arith
health_small Suspect = omega arith
health_small Failed = omega arith
