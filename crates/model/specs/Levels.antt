-- W-205, "A task that may set no level": which tasks surely write, and row 14.
use Rattle.std.specs.Prelude.{ℕ, Bool, true, false, not, ◌&&◌, ◌||◌, List}
use Rattle.model.specs.declared.Form.{Form}
use Rattle.model.specs.declared.Form.TheVariants.{Task, Equalised, Laid}
use Rattle.model.specs.Trees.{Act, set, read, write, check, beat, save, Block, nil, skip, act, branch, while, times, file_tree}

-- "A WRITE surely writes": of the records that open and close no block it alone does
abbrev pub writes : Act → Bool
writes (set o t l x) = false
writes (read a p) = false
writes (write a p) = true
writes (check q) = false
writes (beat x) = false
writes (save m) = false

-- "a sequence if one of its parts does, an IF if both sides do, a WHILE never": of each statement whether it does, or what follows it. No task
-- has a TIMES.
abbrev pub surely_writes : Block → Bool
surely_writes nil = false
surely_writes (skip n b) = false || surely_writes b
surely_writes (act p b) = writes p || surely_writes b
surely_writes (branch q a d b) = (surely_writes a && surely_writes d) || surely_writes b
surely_writes (while q n a b) = false || surely_writes b
surely_writes (times q n a b) = false || surely_writes b

-- "Tasks that don't surely write are turned down when read" (row 14). "Equalised and laid files are not tested for this."
abbrev pub no_level : Form → List ℕ → Bool
no_level Task file = not (surely_writes (file_tree file))
no_level Equalised file = false
no_level Laid file = false
