-- The lent buffers beside what the store holds.
use Rattle.std.specs.Prelude.{◌≡◌, ℕ, Bool, List, length}
use Rattle.model.specs.Limits.{port_count, variable_count}
use Rattle.model.specs.Stopping.{Saved}
use Rattle.model.specs.Replies.{is_saved, image_over}
use Rattle.stepping.specs.Machines.{Held}

abbrev pub with_variables : List ℕ → Held → Held
with_variables v h = record { variables = v; levels = h.levels; marks = h.marks; image = h.image }

abbrev pub with_outputs : List ℕ → List ℕ → Held → Held
with_outputs l m h = record { variables = h.variables; levels = l; marks = m; image = h.image }

-- the table's lengths
pub record Sized (v l m : List ℕ) : Type 0 where
  pub variables : length v ≡ variable_count
  pub levels : length l ≡ port_count
  pub marks : length m ≡ port_count

-- the buffers show what is held
pub record Stored (h : Held) (v l m : List ℕ) : Type 0 where
  pub variables : v ≡ h.variables
  pub levels : l ≡ h.levels
  pub marks : m ≡ h.marks

-- the last image over a lent buffer, and whether there is one
pub record StoredImage (s : Saved) (old new : List ℕ) (r : Bool) : Type 0 where
  pub told : r ≡ is_saved s
  pub bytes : new ≡ image_over s old
