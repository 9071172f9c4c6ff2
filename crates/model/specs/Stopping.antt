-- Document 01, "Stopping and taking up".
use Rattle.std.specs.Prelude.{ℕ, zero, suc, ◌+◌, ◌-◌, cond, List, [], ◌∷◌, ◌++◌, leb}
use Rattle.model.specs.declared.Settings.{Settings}
use Rattle.model.specs.Limits.{variable_count}
use Rattle.model.specs.Records.{word_at, word_bytes}
use Rattle.model.specs.Trees.{Block, nil, skip, act, branch, while, times, ◌⧺◌, size}
use Rattle.model.specs.Runs.{Step, is_save, on_variables, run}

-- "Stopped at tick c, a run has done the steps that end at or before c."
abbrev pub upto : ℕ → List Step → List Step
upto c [] = []
upto c (e ∷ es) = cond (leb e.lasts c) (e ∷ upto (c - e.lasts) es) []

-- "The image of a finished SAVE is .. the index of the record after the SAVE, the tick at its end, the 16 variables."
pub record Image : Type 0 where
  pub index : ℕ
  pub tick : ℕ
  pub variables : List ℕ

pub data Saved : Type 0 where
  none : Saved
  saved : Image → Saved

-- the image of the last SAVE among steps that begin at tick t with variables v, or m if there is none
abbrev pub last_image : List Step → ℕ → List ℕ → Saved → Saved
last_image [] t v m = m
last_image (e ∷ es) t v m =
    last_image es (t + e.lasts) (on_variables e.does v)
    (cond (is_save e.does) (saved (record { index = e.index + 1; tick = t + e.lasts; variables = on_variables e.does v })) m)

-- "six records of 4-byte numbers": the 72 bytes of an image, and the image in 72 bytes
abbrev pub words : List ℕ → List ℕ
words [] = []
words (n ∷ ns) = word_bytes n ++ words ns

unfoldable pub image_bytes : Image → List ℕ
image_bytes m = words (m.index ∷ m.tick ∷ m.variables)

abbrev pub words_from : List ℕ → ℕ → ℕ → List ℕ
words_from s at zero = []
words_from s at (suc n) = word_at s at ∷ words_from s (at + 4) n

unfoldable pub image_of : List ℕ → Image
image_of s = record { index = word_at s 0; tick = word_at s 4; variables = words_from s 8 variable_count }

-- "With no finished SAVE .. taking up starts at record 0 with the first variables."
abbrev pub start : List ℕ → Image
start v = record { index = 0; tick = 0; variables = v }

-- What is left to do at record j of a block with no loop: inside a side of an IF, the rest of that side and then what follows the IF.
-- At record 0 it is the whole block, loops or not.
abbrev pub rest : Block → ℕ → Block
rest nil j = nil
rest (skip n b) zero = skip n b
rest (skip n b) (suc j) = rest b j
rest (act p b) zero = act p b
rest (act p b) (suc j) = rest b j
rest (branch q a d b) zero = branch q a d b
rest (branch q a d b) (suc j) =
    cond (leb j (size a)) (rest a j ⧺ b)
    (cond (leb j (1 + size a + size d)) (rest d (j - (1 + size a)) ⧺ b)
    (rest b (j - (2 + size a + size d))))
rest (while q n a b) j = while q n a b
rest (times q n a b) j = times q n a b

-- "one taken up begins with its image's index, tick and variables, or, without an image, as said under stopping". Behind a side that is left, a
-- step's index is not its record's: nothing reads it, since "Only a stopped run writes an image" and taking up "is not stopped again".
unfoldable pub take_up : Settings → List ℕ → Block → Image → List Step
take_up σ ins b m = run σ ins (rest b m.index) m.index m.variables
