-- What the pieces of a laid file ask for, and what they leave in the buffer that they are lent.
use Rattle.std.specs.Prelude.{ℕ, ◌+◌, ◌-◌, ◌≤◌, ◌≡◌, List, ◌++◌, length}
use Rattle.model.specs.Limits.{file_records}
use Rattle.model.specs.declared.Settings.{Settings}
use Rattle.model.specs.Records.{Rec, record_bytes, over}
use Rattle.model.specs.Trees.{Block, beat, act_rec, size}
use Rattle.model.specs.Times.{time}
use Rattle.model.specs.Equalising.{merge}
use Rattle.model.specs.Layout.{before, fill, last_value}
use Rattle.records.specs.Blocks.{block_bytes, skip_bytes}
use Rattle.placing.specs.declared.clock.State.{State}
use Rattle.placing.specs.Merging.{settled, waits}
use Rattle.placing.specs.States.{Shows, After, Stepped, Fillable}

-- the bytes written while c is laid from s on
abbrev pub bytes_of : State → Block → List ℕ
bytes_of s c = block_bytes (settled s.wait c)

-- c fits a file, after what is laid by s, and the buffer
pub record Room (c : Block) (s : State) (out : List ℕ) : Type 0 where
  pub few : s.records + size (settled s.wait c) ≤ file_records
  pub room : length (bytes_of s c) ≤ length out

-- c is laid over the front of old
pub record Lays (σ : Settings) (c : Block) (s : State) (old new : List ℕ) (r : State) : Type 0 where
  pub after : After σ c s r
  pub wrote : new ≡ over (bytes_of s c) old

-- a step of d ticks with the record x, and what stands before it
abbrev pub step_bytes : Settings → State → ℕ → Rec → List ℕ
step_bytes σ s d x = bytes_of s (before σ s.tick d) ++ (skip_bytes (waits s.wait (before σ s.tick d)) ++ record_bytes x)

pub record StepLaid (σ : Settings) (s : State) (d : ℕ) (x : Rec) (old new : List ℕ) (r : State) : Type 0 where
  pub state : Stepped σ s d r
  pub wrote : new ≡ over (step_bytes σ s d x) old

-- the end of a side of an IF that is laid up to s: SKIPs up to tick e, and the record x that closes the side
abbrev pub closing_bytes : Settings → State → ℕ → Rec → List ℕ
closing_bytes σ s e x =
    let c = fill σ (e - s.tick) s.tick e in
    bytes_of s c ++ (skip_bytes (waits s.wait c) ++ record_bytes x)

pub record EndFits (σ : Settings) (s : State) (e : ℕ) (x : Rec) (out : List ℕ) : Type 0 where
  pub can : Fillable σ s e
  pub few : s.records + size (merge s.wait (fill σ (e - s.tick) s.tick e)) ≤ file_records
  pub room : length (closing_bytes σ s e x) ≤ length out

-- the state after c, laid from s on, and the record that closes it
pub record Closed (σ : Settings) (c : Block) (s r : State) : Type 0 where
  pub shows : Shows σ r
  pub tick : r.tick ≡ s.tick + time σ c
  pub wait : r.wait ≡ 0
  pub records : r.records ≡ s.records + size (merge s.wait c) + 1

pub record EndLaid (σ : Settings) (s : State) (e : ℕ) (x : Rec) (old new : List ℕ) (r : State) : Type 0 where
  pub closed : Closed σ (fill σ (e - s.tick) s.tick e) s r
  pub wrote : new ≡ over (closing_bytes σ s e x) old

-- the tail of the file from s on: SKIPs to the next multiple of H, and the last BEAT
abbrev pub tail_bytes : Settings → State → List ℕ
tail_bytes σ s = skip_bytes (s.wait + s.ticks_left) ++ record_bytes (act_rec (beat (last_value σ (s.tick + s.ticks_left))))
