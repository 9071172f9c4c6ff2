-- Document 01, "Laying out".
use Rattle.std.specs.Prelude.{ℕ, zero, suc, ◌+◌, ◌*◌, ◌-◌, ◌%◌, ◌/◌, max, cond, eqb, ltb}
use Rattle.model.specs.declared.Settings.{Settings}
use Rattle.model.specs.Trees.{check, beat, save, Block, nil, skip, act, branch, while, times, ◌⧺◌}
use Rattle.model.specs.Times.{ticks, time}
use Rattle.model.specs.Equalising.{merge}

-- "The equalised file is unrolled, TIMES becoming its rounds and one CHECK."
abbrev pub copies : ℕ → Block → Block
copies zero b = nil
copies (suc n) b = b ⧺ copies n b

abbrev pub unroll : Block → Block
unroll nil = nil
unroll (skip n b) = skip n (unroll b)
unroll (act p b) = act p (unroll b)
unroll (branch q a d b) = branch q (unroll a) (unroll d) (unroll b)
unroll (while q n a b) = while q n (unroll a) (unroll b)
unroll (times q n a b) = copies n (unroll a) ⧺ act (check q) (unroll b)

-- "if the tick is a multiple of H, a BEAT (value 1) comes first, and a SAVE directly after it if that multiple is also one of K × H"
abbrev pub commands : Settings → ℕ → Block
commands σ t =
    cond (eqb (t % σ.window) 0) (act (beat 1) (cond (eqb (t % (σ.spacing * σ.window)) 0) (act (save 0) nil) nil)) nil

-- "the ticks left to the next multiple of H"
abbrev pub left : Settings → ℕ → ℕ
left σ t = σ.window - t % σ.window

-- What stands before a step of d ticks at tick t: its commands, and "A step longer than the ticks left to the next multiple of H
-- waits: SKIPs fill up to it", where commands come first again.
unfoldable pub before : Settings → ℕ → ℕ → Block
before σ t d =
    let u = t + time σ (commands σ t) in
    commands σ t ⧺ cond (ltb (left σ u) d) (skip (left σ u) (commands σ (u + left σ u))) nil

-- "A SKIP is single ticks and may be split": one tick of it at t, and n of them from t on
abbrev pub idle : Settings → ℕ → Block
idle σ t = before σ t 1 ⧺ skip 1 nil

abbrev pub idles : Settings → ℕ → ℕ → Block
idles σ zero t = nil
idles σ (suc n) t = idle σ t ⧺ idles σ n (t + time σ (idle σ t))

-- "filled by SKIPs, commands included, to the end of the later": from t to tick e, at most n of them, and a side a that starts at t
abbrev pub fill : Settings → ℕ → ℕ → ℕ → Block
fill σ zero t e = nil
fill σ (suc n) t e = cond (ltb t e) (idle σ t ⧺ fill σ n (t + time σ (idle σ t)) e) nil

abbrev pub filled : Settings → ℕ → Block → ℕ → Block
filled σ t a e = a ⧺ fill σ (e - (t + time σ a)) (t + time σ a) e

-- The steps of an unrolled block from tick t on. "Both sides of an IF start at one tick; the earlier to end is filled": they meet at e.
-- An unrolled block has no loop.
abbrev pub lay : Settings → Block → ℕ → Block
lay σ nil t = nil
lay σ (skip n b) t = idles σ n t ⧺ lay σ b (t + time σ (idles σ n t))
lay σ (act p b) t =
    let u = t + time σ (before σ t (ticks σ p)) in
    before σ t (ticks σ p) ⧺ act p (lay σ b (u + ticks σ p))
lay σ (branch q a d b) t =
    let u = t + time σ (before σ t 1) in
    let e = u + 1 + max (time σ (lay σ a (u + 1))) (time σ (lay σ d (u + 1))) in
    before σ t 1 ⧺ branch q (filled σ (u + 1) (lay σ a (u + 1)) e) (filled σ (u + 1) (lay σ d (u + 1)) e) (lay σ b e)
lay σ (while q n a b) t = while q n a b
lay σ (times q n a b) t = times q n a b

-- "Tick 0 has BEAT (value 1) and SAVE."
abbrev pub opened : Settings → Block → Block
opened σ b = act (beat 1) (act (save 0) (lay σ b (σ.beat + σ.save)))

-- "After the last step SKIPs run to the next multiple of H, if not there already"
abbrev pub body : Settings → Block → Block
body σ b =
    let t = time σ (opened σ b) in
    opened σ b ⧺ cond (eqb (t % σ.window) 0) nil (skip (left σ t) nil)

-- "one last BEAT stands there, never a SAVE, with value ceil((P − total) / H), where total includes that BEAT": it starts at t
abbrev pub ceiling : ℕ → ℕ → ℕ
ceiling n d = (n + (d - 1)) / d

unfoldable pub last_value : Settings → ℕ → ℕ
last_value σ t = ceiling (σ.period - (t + σ.beat)) σ.window

abbrev pub closed : Settings → Block → Block
closed σ b = body σ b ⧺ act (beat (last_value σ (time σ (body σ b)))) nil

-- "SKIPs merge as above."
unfoldable pub layout : Settings → Block → Block
layout σ b = merge 0 (closed σ (unroll b))

-- the total stated for an equalised block
unfoldable pub total : Settings → Block → ℕ
total σ b = time σ (body σ (unroll b)) + σ.beat
