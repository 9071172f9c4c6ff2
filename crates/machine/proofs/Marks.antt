-- Marks stay bytes.
use Prim.Native.Nat.{ℕ, zero, suc, ◌<◌}
use native.Mathlib.Omega.{arith}
use mathlib.Core.List.{List, [], ◌∷◌}
use lib.ListN.{set, replicate}
use Rattle.model.specs.Runs.{Effect, nothing, assigns, outputs, beats, saves, overruns, Step, on_outputs, outputs_after, mark}
use Rattle.model.specs.Records.{Bytes}

set_bytes : (l : List ℕ) (p x : ℕ) → x < 256 → Bytes l → Bytes (set l p x)
set_bytes [] p x h B i = B i
set_bytes (y ∷ l) zero x h B zero = h
set_bytes (y ∷ l) zero x h B (suc i) = B (suc i)
set_bytes (y ∷ l) (suc p) x h B zero = B zero
set_bytes (y ∷ l) (suc p) x h B (suc i) = set_bytes l p x h (λ j. B (suc j)) i

mark_bytes : (w : Effect) (l : List ℕ) → Bytes l → Bytes (on_outputs mark w l)
mark_bytes nothing l B = B
mark_bytes (assigns a x) l B = B
mark_bytes (outputs p x) l B = set_bytes l p 1 (omega arith) B
mark_bytes (beats x) l B = B
mark_bytes (saves m) l B = B
mark_bytes overruns l B = B

pub marks_bytes : (es : List Step) (l : List ℕ) → Bytes l → Bytes (outputs_after mark es l)
marks_bytes [] l B = B
marks_bytes (e ∷ es) l B = marks_bytes es (on_outputs mark e.does l) (mark_bytes e.does l B)

pub zeros_bytes : (n : ℕ) → Bytes (replicate n 0)
zeros_bytes zero i = omega arith
zeros_bytes (suc n) zero = omega arith
zeros_bytes (suc n) (suc i) = zeros_bytes n i
