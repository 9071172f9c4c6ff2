-- How C tells a call the form of a file, and how a call answers C: one number of 64 bits for what the paper returns.
use Rattle.std.specs.Prelude.{ℕ, ◌+◌, ◌*◌, ◌-◌, ◌^◌, min, cond, List, eqb, get_or}
use Rattle.model.specs.declared.Form.{Form}
use Rattle.model.specs.declared.Form.TheVariants.{Task, Equalised, Laid}
use Rattle.model.specs.Answers.{Verdict, finished, refused}

-- 0 a task, 1 an equalised file, any other number a laid one
abbrev pub form_of : ℕ → Form
form_of x = cond (eqb x 0) Task (cond (eqb x 1) Equalised Laid)

-- the first value of a finished result; 0 where there is none
abbrev pub first_in : Verdict → ℕ
first_in (finished xs) = get_or xs 0 0
first_in (refused n xs) = 0

-- A refusal: bit 63, its number in bits 56 to 62, and in bits 0 to 55 the value, or the largest number that has room there; 0 where the number is returned
-- alone.
abbrev pub refused_word : ℕ → ℕ → ℕ
refused_word n x = 2 ^ 63 + 2 ^ 56 * n + min x (2 ^ 56 - 1)

-- The values of a call that times or writes a file, or of the watcher's: the time, the bytes written or the health in bits 0 to 23, and the time,
-- the total or the count and 2 more in bits 24 to 55.
abbrev pub file_word : List ℕ → ℕ
file_word xs = get_or xs 0 0 + 2 ^ 24 * get_or xs 1 0

-- The values of a call that runs a file: the end or stop tick in bits 0 to 23, and from bit 56 on the flags 1, it overran, and 2, there is an image.
abbrev pub run_word : List ℕ → ℕ
run_word xs = get_or xs 0 0 + 2 ^ 56 * (get_or xs 1 0 + 2 * get_or xs 2 0)

-- an answer, where a finished call packs its values so
abbrev pub packed : (List ℕ → ℕ) → Verdict → ℕ
packed word (finished xs) = word xs
packed word (refused n xs) = refused_word n (get_or xs 0 0)
