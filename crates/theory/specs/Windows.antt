-- Where in a window a step may start. Contracts of laying out speak of it; no demand does, so nobody has to believe it.
use Rattle.std.specs.Prelude.{ℕ, ◌+◌, ◌*◌, ◌%◌, ◌≤◌, ◌≡◌}
use Rattle.model.specs.declared.Settings.{Settings}

-- the ticks of a round, K windows
abbrev pub round : Settings → ℕ
round σ = σ.spacing * σ.window

-- ε ticks or more past the commands of its window: at the start of each round they are a BEAT and a SAVE, else a BEAT
pub record Past (σ : Settings) (ε t : ℕ) : Type 0 where
  pub beaten : σ.beat + ε ≤ t % σ.window
  pub saved : σ.beat + σ.save + ε ≤ t % round σ

-- where a step or a command may start; one tick past the commands after any step, so that filling a side meets the other's end
pub data Free (σ : Settings) (ε t : ℕ) : Type 0 where
  bound : t % σ.window ≡ 0 → Free σ ε t
  past : Past σ ε t → Free σ ε t
