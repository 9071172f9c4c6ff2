-- What a state of laying out says, and how it goes on.
use Rattle.std.specs.Prelude.{ℕ, ◌+◌, ◌*◌, ◌-◌, ◌%◌, ◌≤◌, ◌<◌, min, ◌≡◌}
use Rattle.model.specs.Limits.{file_records, most_ticks}
use Rattle.model.specs.declared.Settings.{Settings}
use Rattle.model.specs.Trees.{Act, Block, nil, skip, act, ◌⧺◌, size}
use Rattle.model.specs.Times.{ticks, time}
use Rattle.model.specs.Equalising.{merge}
use Rattle.model.specs.Layout.{before, idles, fill}
use Rattle.model.specs.Placement.{Fits}
use Rattle.theory.specs.Windows.{round, Free}
use Rattle.placing.specs.declared.clock.State.{State}
use Rattle.placing.specs.Merging.{settled, waits}

-- what reading and row 7 leave of the settings
pub record Layable (σ : Settings) : Type 0 where
  pub fits : Fits σ
  pub narrow : σ.window ≤ most_ticks
  pub short : σ.period ≤ most_ticks

-- a count of records that stops one past the longest file
abbrev pub too_many : ℕ
too_many = 1 + file_records

abbrev pub cap : ℕ → ℕ
cap n = min n too_many

-- the ticks left to the next multiple of H, 0 at one before its commands, and the windows left from there to the next one of K × H
pub record Shows (σ : Settings) (s : State) : Type 0 where
  pub below : s.ticks_left < σ.window
  pub fewer : s.windows_left < σ.spacing
  pub bound : (s.tick + s.ticks_left) % σ.window ≡ 0
  pub round : (s.tick + s.ticks_left + σ.window * s.windows_left) % (σ.spacing * σ.window) ≡ 0
  pub waited : s.wait ≤ s.tick
  pub few : s.records ≤ too_many

-- what remainders by H and K × H give for these counts: the ticks to the next multiple of H, and from there to the next one of K × H
pub record Remainders (σ : Settings) (s : State) : Type 0 where
  pub ticks : s.ticks_left ≡ (σ.window - s.tick % σ.window) % σ.window
  pub windows : σ.window * s.windows_left ≡ (round σ - (s.tick + s.ticks_left) % round σ) % round σ

-- a state from which laying out may go on
pub record Laying (σ : Settings) (s : State) : Type 0 where
  pub settings : Layable σ
  pub shows : Shows σ s
  pub within : s.tick ≤ σ.period

-- r is the state once c is laid from s on
pub record After (σ : Settings) (c : Block) (s r : State) : Type 0 where
  pub shows : Shows σ r
  pub tick : r.tick ≡ s.tick + time σ c
  pub wait : r.wait ≡ waits s.wait c
  pub records : r.records ≡ cap (s.records + size (settled s.wait c))

-- d ticks are left in the window
pub record Readied (σ : Settings) (s : State) (d : ℕ) (r : State) : Type 0 where
  pub after : After σ (before σ s.tick d) s r
  pub room : d ≤ r.ticks_left

-- a step of d ticks, and what stands before it
pub record Stepped (σ : Settings) (s : State) (d : ℕ) (r : State) : Type 0 where
  pub after : (p : Act) → ticks σ p ≡ d → After σ (before σ s.tick d ⧺ act p nil) s r

-- k ticks of SKIP, no more than are left
pub record Idled (s : State) (k : ℕ) (r : State) : Type 0 where
  pub after : (σ : Settings) → Shows σ s → After σ (skip k nil) s r

-- k single ticks of SKIP are laid from s on; or the tick is above P, as it is once they are laid
pub record Skipped (σ : Settings) (k : ℕ) (s r : State) : Type 0 where
  pub late : σ.period < s.tick + time σ (idles σ k s.tick) → σ.period < r.tick
  pub after : s.tick + time σ (idles σ k s.tick) ≤ σ.period → After σ (idles σ k s.tick) s r
  pub few : r.records ≤ too_many

-- SKIPs may fill up to tick e, where a step ends
pub record Fillable (σ : Settings) (s : State) (e : ℕ) : Type 0 where
  pub laying : Laying σ s
  pub reaches : s.tick ≤ e
  pub upto : e ≤ σ.period
  pub free : Free σ 1 e

-- and then n records are laid, with the SKIP that waits there; or more than a file can have, both ways
pub record FillCounted (σ : Settings) (s : State) (e n : ℕ) : Type 0 where
  pub few : n ≤ 5463
  pub counts : cap n ≡ cap (s.records + size (merge s.wait (fill σ (e - s.tick) s.tick e)))

-- the clock of s, while w ticks of SKIP wait, after n records
abbrev pub back_to : State → ℕ → ℕ → State
back_to s w n = record { tick = s.tick; ticks_left = s.ticks_left; windows_left = s.windows_left; wait = w; records = n }

-- tick 0, before its commands
abbrev pub started : State
started = record { tick = 0; ticks_left = 0; windows_left = 0; wait = 0; records = 0 }
