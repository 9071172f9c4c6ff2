-- Document 01, "Times and meanings", its first paragraph: how long each step and block takes.
use Rattle.std.specs.Prelude.{ℕ, ◌+◌, ◌*◌, ◌%◌, max, cond, eqb}
use Rattle.model.specs.declared.Settings.{Settings}
use Rattle.model.specs.Limits.{by_variable}
use Rattle.model.specs.Trees.{Act, set, read, write, check, beat, save, Block, nil, skip, act, branch, while, times}

-- "the ticks of SET, READ, WRITE, BEAT .. and SAVE", "A test takes 1 tick"; W-204: "A SET's time now depends on its operation", of which 3 and 19
-- multiply
abbrev pub ticks : Settings → Act → ℕ
ticks σ (set o t l x) = cond (eqb (o % by_variable) 3) σ.multiply σ.set
ticks σ (read a p) = σ.read
ticks σ (write a p) = σ.write
ticks σ (check q) = 1
ticks σ (beat x) = σ.beat
ticks σ (save m) = σ.save

-- "the longest of SET, READ, WRITE, used or not" (row 7); W-204: "refusal 7's longest step counts" a multiply too
abbrev pub longest : Settings → ℕ
longest σ = max (max σ.set σ.multiply) (max σ.read σ.write)

-- "a sequence's time is the sum, IF is 1 plus the larger side, WHILE is count × (body + 1) + 1, TIMES is count × body + 1,
-- an empty part 0"; "SKIP its count"
abbrev pub time : Settings → Block → ℕ
time σ nil = 0
time σ (skip n b) = n + time σ b
time σ (act p b) = ticks σ p + time σ b
time σ (branch q a d b) = 1 + max (time σ a) (time σ d) + time σ b
time σ (while q n a b) = n * (time σ a + 1) + 1 + time σ b
time σ (times q n a b) = n * time σ a + 1 + time σ b
