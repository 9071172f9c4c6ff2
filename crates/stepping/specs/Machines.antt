-- A run as a machine that does one step after another up to a limit: the form in which the functions of this crate and of `machine` speak of the model's runs.
use Rattle.std.specs.Prelude.{ℕ, ◌+◌, ◌%◌, Bool, true, cond, ◌||◌, List, [], ◌∷◌, replicate, ◌==◌, nat_le, slice_index, Option, None, Some}
use Rattle.model.specs.Limits.{by_variable, port_count, variable_count}
use Rattle.model.specs.Records.{Rec, SET, READ, WRITE, CHECK, BEAT, SAVE}
use Rattle.model.specs.Runs.{Effect, nothing, assigns, outputs, beats, saves, is_save, is_overrun, Step, on_variables, on_outputs, level, mark}
use Rattle.model.specs.Runs.{right_value, result_of, last_test, Run}
use Rattle.model.specs.Stopping.{Image, Saved, none, saved}
use Rattle.reading.specs.Ranges.{test_of}
use Rattle.stepping.specs.declared.store.Image.{Image as Kept}
use Rattle.stepping.specs.declared.store.Store.{Store}

-- WHAT A RUN HOLDS

pub record Held : Type 0 where
  pub variables : List ℕ
  pub levels : List ℕ
  pub marks : List ℕ
  pub image : Saved

-- an effect at tick t, by a step before the record `next`
abbrev pub affect : ℕ → ℕ → Effect → Held → Held
affect next t w h = record {
  variables = on_variables w h.variables;
  levels = on_outputs level w h.levels;
  marks = on_outputs mark w h.marks;
  image = cond (is_save w) (saved (record { index = next; tick = t; variables = on_variables w h.variables })) h.image;
}

-- an image as the code has it
abbrev pub pictured : Kept → Image
pictured m = record { index = m.index; tick = m.tick; variables = m.variables }

abbrev pub image_in : Option Kept → Saved
image_in None = none
image_in (Some m) = saved (pictured m)

unfoldable pub held : Store → Held
held w = record { variables = w.variables; levels = w.levels; marks = w.marks; image = image_in w.image }

-- all numbers 0, and no image
abbrev pub empty : Held
empty = record { variables = replicate variable_count 0; levels = replicate port_count 0; marks = replicate port_count 0; image = none }

-- THE MACHINE

-- a run under way: its tick, whether a step was cut at the limit, and whether it overran
pub record Machine : Type 0 where
  pub tick : ℕ
  pub cut : Bool
  pub overran : Bool
  pub holds : Held

abbrev pub machine : ℕ → Bool → Bool → Held → Machine
machine t c o h = record { tick = t; cut = c; overran = o; holds = h }

-- a step that ends by the limit acts, and the first that does not cuts the run
abbrev pub acted : Step → Machine → Machine
acted e m = machine (m.tick + e.lasts) m.cut (m.overran || is_overrun e.does) (affect (e.index + 1) (m.tick + e.lasts) e.does m.holds)

abbrev pub cut_off : Machine → Machine
cut_off m = machine m.tick true m.overran m.holds

abbrev pub turn : ℕ → Step → Machine → Machine
turn limit e m = cond m.cut m (cond (nat_le (m.tick + e.lasts) limit) (acted e m) (cut_off m))

abbrev pub does : ℕ → List Step → Machine → Machine
does limit [] m = m
does limit (e ∷ es) m = does limit es (turn limit e m)

-- a run from where the machine is
unfoldable pub runs : ℕ → Run → Machine → Machine
runs limit f m = does limit (f m.holds.variables) m

-- the result of a SET's operation
abbrev pub set_result : Rec → List ℕ → ℕ
set_result r v = result_of (r.op % by_variable) (slice_index v r.left) (right_value r.op r.value v)

-- what a record that opens and closes no block does
abbrev pub record_effect : List ℕ → Rec → List ℕ → Effect
record_effect ins r v =
    cond (r.kind == SET) (assigns r.target (set_result r v))
    (cond (r.kind == READ) (assigns r.target (slice_index ins r.left))
    (cond (r.kind == WRITE) (outputs r.left (slice_index v r.target))
    (cond (r.kind == CHECK) (last_test (test_of r) v)
    (cond (r.kind == BEAT) (beats r.value)
    (cond (r.kind == SAVE) (saves r.value)
    nothing)))))
