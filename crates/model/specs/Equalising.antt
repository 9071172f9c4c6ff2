-- Document 01, "Equalising", and the rules of source document 003, section IV.A.
use Rattle.std.specs.Prelude.{ℕ, zero, suc, ◌+◌, ◌-◌}
use Rattle.model.specs.declared.Settings.{Settings}
use Rattle.model.specs.Trees.{Block, nil, skip, act, branch, while, times, ◌⧺◌}
use Rattle.model.specs.Times.{time}

-- 003's skip^n
abbrev pub pad : ℕ → Block
pad n = skip n nil

-- 003's F. "The shorter side of an IF gets a SKIP of the difference at its end, inner blocks first. WHILE becomes TIMES with the same
-- test and count, holding an IF with that test, the equalised body, and an ELSE side of SKIP for the body's time."
abbrev pub F : Settings → Block → Block
F σ nil = nil
F σ (skip n b) = skip n (F σ b)
F σ (act p b) = act p (F σ b)
F σ (branch q a d b) =
    branch q (F σ a ⧺ pad (time σ (F σ d) - time σ (F σ a))) (F σ d ⧺ pad (time σ (F σ a) - time σ (F σ d))) (F σ b)
F σ (while q n a b) = times q n (branch q (F σ a) (pad (time σ (F σ a))) nil) (F σ b)
F σ (times q n a b) = times q n (F σ a) (F σ b)

-- "Neighbouring SKIPs in one block become one; a SKIP of 0 is left out." n ticks of SKIP wait for the next record.
abbrev pub waiting : ℕ → Block → Block
waiting zero b = b
waiting (suc n) b = skip (suc n) b

abbrev pub merge : ℕ → Block → Block
merge n nil = waiting n nil
merge n (skip m b) = merge (n + m) b
merge n (act p b) = waiting n (act p (merge 0 b))
merge n (branch q a d b) = waiting n (branch q (merge 0 a) (merge 0 d) (merge 0 b))
merge n (while q m a b) = waiting n (while q m (merge 0 a) (merge 0 b))
merge n (times q m a b) = waiting n (times q m (merge 0 a) (merge 0 b))

unfoldable pub equalise : Settings → Block → Block
equalise σ b = merge 0 (F σ b)
