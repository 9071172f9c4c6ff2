-- Merging from left to right, while ticks of SKIP wait for the next record.
use Rattle.std.specs.Prelude.{ℕ, ◌+◌}
use Rattle.model.specs.Trees.{Block, nil, skip, act, branch, while, times}
use Rattle.model.specs.Equalising.{waiting, merge}

-- what is written once b is read, after n ticks of SKIP, and the ticks of SKIP that wait then
abbrev pub settled : ℕ → Block → Block
settled n nil = nil
settled n (skip m b) = settled (n + m) b
settled n (act p b) = waiting n (act p (settled 0 b))
settled n (branch q a d b) = waiting n (branch q (merge 0 a) (merge 0 d) (settled 0 b))
settled n (while q m a b) = waiting n (while q m (merge 0 a) (settled 0 b))
settled n (times q m a b) = waiting n (times q m (merge 0 a) (settled 0 b))

abbrev pub waits : ℕ → Block → ℕ
waits n nil = n
waits n (skip m b) = waits (n + m) b
waits n (act p b) = waits 0 b
waits n (branch q a d b) = waits 0 b
waits n (while q m a b) = waits 0 b
waits n (times q m a b) = waits 0 b
