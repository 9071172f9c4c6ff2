-- Loops whose bodies have SKIPs alone: what all their rounds are laid as, and what such a loop asks for and leaves.
use Rattle.std.specs.Prelude.{ℕ, ◌+◌, ◌≤◌, ◌<◌, min, ◌≡◌, List, Option, None, Some}
use Rattle.model.specs.declared.Form.TheVariants.{Equalised}
use Rattle.model.specs.declared.Settings.{Settings}
use Rattle.model.specs.Records.{Rec, SKIP, TIMES}
use Rattle.model.specs.Trees.{Test, check, Block, nil, act, ◌⧺◌, size, act_rec}
use Rattle.model.specs.Times.{time}
use Rattle.model.specs.Layout.{copies, unroll, before, idles, lay}
use Rattle.model.specs.Placement.{Fits}
use Rattle.theory.specs.Windows.{Free}
use Rattle.reading.specs.Ranges.{Stands, test_of}
use Rattle.placing.specs.declared.clock.State.{State}
use Rattle.placing.specs.States.{Laying, After, too_many}
use Rattle.placing.specs.Placed.{Room, Lays}
use Rattle.layout.specs.declared.skips.Idle.{Idle}

-- c rounds of the body a at i are laid as so many ticks of SKIP, of which r tells one more than p at the most
pub record IdleBody (a : Block) (i c p : ℕ) (r : Idle) : Type 0 where
  pub all : ℕ
  pub same : (σ : Settings) → Fits σ → (t : ℕ) → Free σ 0 t → lay σ (copies c (unroll a)) t ≡ idles σ all t
  pub told : r.ticks ≡ min all (p + 1)
  pub goes : r.next ≡ i + size a

-- the body that stands at i has SKIPs alone
pub record IdleRounds (s : List ℕ) (i to c p : ℕ) (r : Idle) : Type 0 where
  pub high : r.next ≤ to
  pub right : (a : Block) → Stands Equalised s i to a → IdleBody a i c p r

-- nothing is told of any other
abbrev pub AllIdle : List ℕ → ℕ → ℕ → ℕ → ℕ → Option Idle → Type 0
AllIdle s i to c p None = Unit {0}
AllIdle s i to c p (Some r) = IdleRounds s i to c p r

-- the loop at i with the record x has such a body
pub record IdleLoop (s : List ℕ) (i to : ℕ) (x : Rec) (p : ℕ) (r : Idle) : Type 0 where
  pub kind : x.kind ≡ TIMES
  pub body : Idle
  pub all : IdleRounds s (i + 1) to x.count p body
  pub ticks : r.ticks ≡ body.ticks
  pub next : r.next ≡ body.next + 1

-- the statement at i with the record x is a SKIP, or such a loop
pub record IdleHere (s : List ℕ) (i to : ℕ) (x : Rec) (p : ℕ) (r : Idle) : Type 0 where
  pub skip : x.kind ≡ SKIP → (r.ticks ≡ x.count) × (r.next ≡ i + 1)
  pub loop : (x.kind ≡ SKIP → ⊥) → IdleLoop s i to x p r

abbrev pub IdleAt : List ℕ → ℕ → ℕ → Rec → ℕ → Option Idle → Type 0
IdleAt s i to x p None = x.kind ≡ SKIP → ⊥
IdleAt s i to x p (Some r) = IdleHere s i to x p r

-- k ticks of SKIP from tick t on, and a CHECK
abbrev pub checked : Settings → ℕ → Test → ℕ → Block
checked σ k q t = idles σ k t ⧺ (before σ (t + time σ (idles σ k t)) 1 ⧺ act (check q) nil)

-- the CHECK of a loop
abbrev pub check_rec : Rec → Rec
check_rec x = act_rec (check (test_of x))

-- k ticks of SKIP and a CHECK are laid from s on; or the tick is above P, as it is once they are laid
pub record IdleEnds (σ : Settings) (k : ℕ) (s r : State) : Type 0 where
  pub late : (q : Test) → σ.period < s.tick + time σ (checked σ k q s.tick) → σ.period < r.tick
  pub after : (q : Test) → s.tick + time σ (checked σ k q s.tick) ≤ σ.period → After σ (checked σ k q s.tick) s r
  pub few : r.records ≤ too_many

-- what writing them asks for, with the CHECK of the loop that has the record x, and what it leaves
pub record IdleFits (σ : Settings) (k : ℕ) (x : Rec) (s : State) (out : List ℕ) : Type 0 where
  pub laying : Laying σ s
  pub within : s.tick + time σ (checked σ k (test_of x) s.tick) ≤ σ.period
  pub room : Room (checked σ k (test_of x) s.tick) s out

pub record IdleLaid (σ : Settings) (k : ℕ) (x : Rec) (s : State) (old new : List ℕ) (r : State) : Type 0 where
  pub lays : Lays σ (checked σ k (test_of x) s.tick) s old new r

-- the ticks of SKIP, and after them the CHECK where x is no SKIP
pub record SkipsFit (σ : Settings) (k : ℕ) (x : Rec) (s : State) (out : List ℕ) : Type 0 where
  pub laying : Laying σ s
  pub within : s.tick + time σ (idles σ k s.tick) ≤ σ.period
  pub room : Room (idles σ k s.tick) s out
  pub check : (x.kind ≡ SKIP → ⊥) → IdleFits σ k x s out

pub record SkipsLaid (σ : Settings) (k : ℕ) (x : Rec) (s : State) (old new : List ℕ) (r : State) : Type 0 where
  pub skips : x.kind ≡ SKIP → Lays σ (idles σ k s.tick) s old new r
  pub check : (x.kind ≡ SKIP → ⊥) → IdleLaid σ k x s old new r
