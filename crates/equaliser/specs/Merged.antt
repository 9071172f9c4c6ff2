-- An equalised block as it is written from left to right, while ticks of SKIP wait for the next record.
use Rattle.std.specs.Prelude.{ℕ, ◌+◌, ◌-◌}
use Rattle.model.specs.declared.Settings.{Settings}
use Rattle.model.specs.Trees.{Test, Block, nil, skip, act, branch, while, times, ◌⧺◌}
use Rattle.model.specs.Times.{time}
use Rattle.model.specs.Equalising.{pad, F, waiting, merge}

-- b with k ticks of SKIP at its end, after n ticks of SKIP
abbrev pub padded : Settings → ℕ → Block → ℕ → Block
padded σ n b k = merge n (F σ b ⧺ pad k)

-- an IF, and the TIMES that a WHILE becomes
abbrev pub branch_out : Settings → Test → Block → Block → Block
branch_out σ q a d = branch q (padded σ 0 a (time σ d - time σ a)) (padded σ 0 d (time σ a - time σ d)) nil

abbrev pub loop_out : Settings → Test → ℕ → Block → Block
loop_out σ q m a = times q m (branch q (padded σ 0 a 0) (waiting (time σ a) nil) nil) nil

-- what is written once the first statement of b is read, after n ticks of SKIP, and the ticks of SKIP that wait then
abbrev pub first_out : Settings → ℕ → Block → Block
first_out σ n nil = nil
first_out σ n (skip m b) = nil
first_out σ n (act p b) = waiting n (act p nil)
first_out σ n (branch q a d b) = waiting n (branch_out σ q a d)
first_out σ n (while q m a b) = waiting n (loop_out σ q m a)
first_out σ n (times q m a b) = waiting n (times q m (padded σ 0 a 0) nil)

abbrev pub first_waits : ℕ → Block → ℕ
first_waits n nil = n
first_waits n (skip m b) = n + m
first_waits n (act p b) = 0
first_waits n (branch q a d b) = 0
first_waits n (while q m a b) = 0
first_waits n (times q m a b) = 0
