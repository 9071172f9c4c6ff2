-- W-201: "a prepared task in steady periods (begun every P ticks, never stopped or overrunning, its entry reset with the file's H)", and what
-- its watcher then sees, tick by tick.
use Rattle.std.specs.Prelude.{ℕ, zero, suc, ◌+◌, ◌*◌, ◌-◌, ◌%◌, ◌≡◌, Bool, true, false, cond, List, [], ◌∷◌, ◌++◌, map, eqb, leb, length, take, replicate}
use Rattle.model.specs.declared.Event.{Event}
use Rattle.model.specs.declared.Event.TheVariants.{Beat, Look, Reset}
use Rattle.model.specs.declared.Form.TheVariants.{Laid}
use Rattle.model.specs.Settings.{settings_of}
use Rattle.model.specs.Runs.{Effect, nothing, assigns, outputs, beats, saves, overruns, Step}
use Rattle.model.specs.Answers.{Verdict, is_finished, value_at}
use Rattle.model.specs.Replies.{lay_out_reply, lay_out_out, Loan, steps_of, run_reply}
use Rattle.model.specs.Chain.{Set, Outputs, lend}

-- THE PERIODS

-- what the calls are handed over: the settings, an equalised file (that of a task, where it is "prepared"), room for the laid one, and in each
-- period a set and outputs; and the tick at which period 0 begins
pub record Course : Type 0 where
  pub settings : List ℕ
  pub file : List ℕ
  pub room : List ℕ
  pub sets : ℕ → Set
  pub outputs : ℕ → Outputs
  pub first : ℕ

abbrev pub laying : Course → Verdict
laying k = lay_out_reply k.settings k.file (length k.room)

-- what laying out wrote
abbrev pub laid_in : Course → List ℕ
laid_in k = take (value_at 0 (laying k)) (lay_out_out k.settings k.file k.room)

-- "begun every P ticks": where period n begins, the run of the laid file in it, and its steps
abbrev pub begins : Course → ℕ → ℕ
begins k n = k.first + n * (settings_of k.settings).period

abbrev pub run_in : Course → ℕ → Loan
run_in k n = lend k.settings Laid (laid_in k) (k.sets n).inputs (k.sets n).variables (k.outputs n)

abbrev pub steps_in : Course → ℕ → List Step
steps_in k n = steps_of (run_in k n)

-- laying out and each run are not refused, and no run answers that it overran
pub record Steady (k : Course) : Type 0 where
  pub laid_out : is_finished (laying k) ≡ true
  pub ran : (n : ℕ) → is_finished (run_reply (run_in k n)) ≡ true
  pub whole : (n : ℕ) → value_at 1 (run_reply (run_in k n)) ≡ 0

-- THE BEATS: "A BEAT sets the count to its value at the beat's end"

abbrev pub beat_value : Effect → List ℕ
beat_value nothing = []
beat_value (assigns a x) = []
beat_value (outputs p x) = []
beat_value (beats x) = x ∷ []
beat_value (saves m) = []
beat_value overruns = []

-- the values of those that end at tick c, among steps of which the first begins at tick t
abbrev pub beats_ending : ℕ → ℕ → List Step → List ℕ
beats_ending c t [] = []
beats_ending c t (e ∷ es) = cond (eqb (t + e.lasts) c) (beat_value e.does) [] ++ beats_ending c (t + e.lasts) es

-- in the periods 0 to m - 1, where period n begins at tick `start n` and does `steps n`
abbrev pub beats_in : (ℕ → ℕ) → (ℕ → List Step) → ℕ → ℕ → List ℕ
beats_in start steps zero c = []
beats_in start steps (suc m) c = beats_in start steps m c ++ beats_ending c (start m) (steps m)

-- in all periods: P is at least 1, so that no period after period c has begun at tick c
abbrev pub beats_at : Course → ℕ → List ℕ
beats_at k c = beats_in (begins k) (steps_in k) (suc c) c

-- those listed by start tick and value that end at tick c, where one that starts at u ends at o + u
abbrev pub listed_ending : ℕ → ℕ → List (ℕ × ℕ) → List ℕ
listed_ending o c [] = []
listed_ending o c (y ∷ l) = cond (eqb (o + y.0) c) (y.1 ∷ []) [] ++ listed_ending o c l

-- THE LOOKS: "a look, every window", at the ticks a, a + h, a + 2h, ..

abbrev pub looks_every : ℕ → ℕ → ℕ → Bool
looks_every h a c = cond (leb a c) (eqb ((c - a) % h) 0) false

-- WHAT HAPPENS TO THE ENTRY

-- at one tick: "Where a beat and a look share a tick, the beat goes first."
abbrev pub events_at : List ℕ → Bool → List Event
events_at vs look = map Beat vs ++ cond look (Look ∷ []) []

-- at the n ticks from r on
abbrev pub events_from : (ℕ → List ℕ) → (ℕ → Bool) → ℕ → ℕ → List Event
events_from vs looks r zero = []
events_from vs looks r (suc n) = events_from vs looks r n ++ events_at (vs (r + n)) (looks (r + n))

-- "its entry reset with the file's H" before tick r, and j looks at once; looks come from tick a on. A reset between the beats and the look of a
-- tick is one before the next tick, with that look at once after it.
abbrev pub watched_from : Course → ℕ → ℕ → ℕ → ℕ → List Event
watched_from k a j r n =
    let h = (settings_of k.settings).window in
    Reset h ∷ replicate j Look ++ events_from (beats_at k) (looks_every h a) r n
