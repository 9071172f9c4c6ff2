-- Document 01, "Laying out", as predicates: what it asks of the settings and of a block, and where each step of a laid file stands.
use Rattle.std.specs.Prelude.{ℕ, ◌+◌, ◌*◌, ◌%◌, max, ◌≤◌, ◌≡◌, true, false, List, [], ◌∷◌, eqb}
use Rattle.model.specs.declared.Settings.{Settings}
use Rattle.model.specs.Trees.{Act, set, read, write, check, beat, save, Block, nil, skip, act, branch, while, times}
use Rattle.model.specs.Times.{ticks, time, longest}
use Rattle.model.specs.Runs.{Effect, nothing, beats, saves, is_beat, is_save, Step}

-- "All are at least 1", P aside
pub record Positive (σ : Settings) : Type 0 where
  pub set_lasts : 1 ≤ σ.set
  pub read_lasts : 1 ≤ σ.read
  pub write_lasts : 1 ≤ σ.write
  pub beat_lasts : 1 ≤ σ.beat
  pub save_lasts : 1 ≤ σ.save
  pub multiply_lasts : 1 ≤ σ.multiply
  pub spaced : 1 ≤ σ.spacing
  pub window_lasts : 1 ≤ σ.window

-- what row 7 leaves of the settings
pub record Fits (σ : Settings) : Type 0 where
  pub positive : Positive σ
  pub wide : σ.beat + σ.save + longest σ ≤ σ.window

-- what a command does, BEAT or SAVE, and nothing for any other act
abbrev pub command : Act → Effect
command (set o t l x) = nothing
command (read a p) = nothing
command (write a p) = nothing
command (check q) = nothing
command (beat x) = beats x
command (save m) = saves m

-- each act of a block is as P says
abbrev pub Each : (Act → Type 0) → Block → Type 0
Each P nil = Unit {0}
Each P (skip n b) = Each P b
Each P (act p b) = P p × Each P b
Each P (branch q a d b) = Each P a × Each P d × Each P b
Each P (while q n a b) = Each P a × Each P b
Each P (times q n a b) = Each P a × Each P b

-- no command: an equalised file holds "1 to 6, 8 and 9"
abbrev pub CommandFree : Block → Type 0
CommandFree b = Each (λ p. command p ≡ nothing) b

-- no loop: "The equalised file is unrolled, TIMES becoming its rounds and one CHECK."
abbrev pub LoopFree : Block → Type 0
LoopFree nil = Unit {0}
LoopFree (skip n b) = LoopFree b
LoopFree (act p b) = LoopFree b
LoopFree (branch q a d b) = LoopFree a × LoopFree d × LoopFree b
LoopFree (while q n a b) = ⊥
LoopFree (times q n a b) = ⊥

-- A step of d ticks that starts at t and does w: a BEAT exactly at the multiples of H, a SAVE exactly B past the multiples of K × H,
-- and no step that goes on past a multiple of H or stands in the ticks of a BEAT.
pub record InPlace (σ : Settings) (t d : ℕ) (w : Effect) : Type 0 where
  pub beat_at_is : is_beat w ≡ eqb (t % σ.window) 0
  pub save_at : is_save w ≡ eqb (t % (σ.spacing * σ.window)) σ.beat
  pub ends : t % σ.window + d ≤ σ.window
  pub clear : is_beat w ≡ false → σ.beat ≤ t % σ.window
  pub beat_lasts : is_beat w ≡ true → d ≡ σ.beat
  pub save_lasts : is_save w ≡ true → d ≡ σ.save

-- the steps of a run from tick t on, and the records of a block from tick t on, both of whose sides of an IF take the same time
abbrev pub StepsPlaced : Settings → ℕ → List Step → Type 0
StepsPlaced σ t [] = Unit {0}
StepsPlaced σ t (e ∷ es) = InPlace σ t e.lasts e.does × StepsPlaced σ (t + e.lasts) es

abbrev pub Placed : Settings → Block → ℕ → Type 0
Placed σ nil t = Unit {0}
Placed σ (skip n b) t = InPlace σ t n nothing × Placed σ b (t + n)
Placed σ (act p b) t = InPlace σ t (ticks σ p) (command p) × Placed σ b (t + ticks σ p)
Placed σ (branch q a d b) t =
    InPlace σ t 1 nothing × Placed σ a (t + 1) × Placed σ d (t + 1) × (time σ a ≡ time σ d) × Placed σ b (t + 1 + max (time σ a) (time σ d))
Placed σ (while q n a b) t = ⊥
Placed σ (times q n a b) t = ⊥
