-- Document 01, "Laying out" and "Stopping and taking up", as lists: the ticks, BEATs and steps of a run that their sentences single out.
use Rattle.std.specs.Prelude.{ℕ, zero, suc, ◌+◌, ◌-◌, ◌%◌, ◌≡◌, Bool, true, cond, List, [], ◌∷◌, ◌++◌, eqb, leb}
use Rattle.model.specs.Runs.{Effect, nothing, assigns, outputs, beats, saves, overruns, Step, is_beat, is_save, gather}

-- of the n ticks from t on those that p picks, and the multiples of h from u on and below n
abbrev pub picks : (ℕ → Bool) → ℕ → ℕ → List ℕ
picks p t zero = []
picks p t (suc n) = cond (p t) (t ∷ []) [] ++ picks p (t + 1) n

abbrev pub multiples : ℕ → ℕ → ℕ → List ℕ
multiples h u n = picks (λ t. eqb (t % h) 0) u (n - u)

-- the start tick and the value of each BEAT among steps of which the first begins at tick t
abbrev pub beat_at : ℕ → Effect → List (ℕ × ℕ)
beat_at t nothing = []
beat_at t (assigns a x) = []
beat_at t (outputs p x) = []
beat_at t (beats x) = (t, x) ∷ []
beat_at t (saves m) = []
beat_at t overruns = []

abbrev pub beat_list : ℕ → List Step → List (ℕ × ℕ)
beat_list = gather beat_at

-- steps of which the last is a BEAT
pub record EndsInBeat (es : List Step) : Type 0 where
  pub before : List Step
  pub beat : Step
  pub parts : es ≡ before ++ beat ∷ []
  pub is : is_beat beat.does ≡ true

-- the steps among those of which the first begins at tick t whose end is at or before c, each judged by itself
abbrev pub ended_by : ℕ → ℕ → List Step → List Step
ended_by c t [] = []
ended_by c t (e ∷ es) = cond (leb (t + e.lasts) c) (e ∷ []) [] ++ ended_by c (t + e.lasts) es

-- the end of the last SAVE among steps of which the first begins at tick t, or d if there is none
abbrev pub last_save_end : ℕ → ℕ → List Step → ℕ
last_save_end d t [] = d
last_save_end d t (e ∷ es) = last_save_end (cond (is_save e.does) (t + e.lasts) d) (t + e.lasts) es
