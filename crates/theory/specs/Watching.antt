-- W-201, on entries and over the replies of the watcher's calls: each part under the words that it answers. The proof is in proofs/Watching.antt.
use Rattle.std.specs.Prelude.{ℕ, suc, ◌+◌, ◌-◌, ◌≤◌, ◌≡◌, ◌↔◌, true, false, List, [], ◌∷◌, ◌++◌, map, ℤ, pos, length, replicate}
use Rattle.std.proofs.Math.IntN.{pred_ℤ}
use Rattle.model.specs.declared.Entry.{Entry}
use Rattle.model.specs.declared.Event.{Event}
use Rattle.model.specs.declared.Event.TheVariants.{Beat, Look, Reset}
use Rattle.model.specs.declared.Health.TheVariants.{Waiting, Failed}
use Rattle.model.specs.Settings.{settings_of}
use Rattle.model.specs.Layout.{ceiling}
use Rattle.model.specs.Timeline.{multiples}
use Rattle.model.specs.Answers.{finished, is_finished, value_at, health_number}
use Rattle.model.specs.Replies.{laid_total}
use Rattle.model.specs.Watching.{count_of, told_by, health_of, fresh_of, after, bad_entry, bad_event, entry_at, event_reply, event_table, status_reply}
use Rattle.model.specs.Watching.{Call, table_after, own, after_all}
use Rattle.model.specs.Periods.{Course, begins, steps_in, Steady, beats_ending, beats_in, beats_at, listed_ending, watched_from}

-- ONE ENTRY

-- an event's entry afterwards: its count is c, it waits no longer, and its window stays
pub record Counts (e f : Entry) (c : ℤ) : Type 0 where
  pub count : count_of f.left ≡ c
  pub counting : f.waiting ≡ false
  pub window_stays : f.window ≡ e.window

pub record Rules (e : Entry) : Type 0 where
  -- "Once an entry no longer waits, its count alone tells well .., suspect .. and failed"
  pub count_tells : e.waiting ≡ false → health_of e ≡ told_by (count_of e.left)
  -- "A BEAT sets the count to its value"
  pub beat_sets : (v : ℕ) → (health_of e ≡ Failed → ⊥) → Counts e (after (Beat v) e) (pos v)
  -- "a look .. takes 1 off"
  pub look_takes : e.waiting ≡ false → (health_of e ≡ Failed → ⊥) → Counts e (after Look e) (pred_ℤ (count_of e.left))
  -- "its looks taking nothing off"
  pub look_waits : e.waiting ≡ true → after Look e ≡ e
  -- "failed holds until reset, beats and looks changing nothing"
  pub failed_beat : (v : ℕ) → health_of e ≡ Failed → after (Beat v) e ≡ e
  pub failed_look : health_of e ≡ Failed → after Look e ≡ e
  -- "a reset gives the window and count 0, and a fresh or reset entry waits"
  pub reset_window : (w : ℕ) → (after (Reset w) e).window ≡ w
  pub reset_count : (w : ℕ) → count_of (after (Reset w) e).left ≡ pos 0
  pub reset_waits : (w : ℕ) → (after (Reset w) e).waiting ≡ true

-- ANY TABLE, AND ANY CALLS ONE AFTER ANOTHER

-- an entry's answers to all that can be asked of it
pub record AnswersAlike (n : ℕ) (t u : List Entry) : Type 0 where
  pub status : status_reply t n ≡ status_reply u n
  pub events : (x : Event) → event_reply t n x ≡ event_reply u n x

-- events of which none is a reset
abbrev pub NoReset : List Event → Type 0
NoReset [] = Unit {0}
NoReset (Beat v ∷ xs) = NoReset xs
NoReset (Look ∷ xs) = NoReset xs
NoReset (Reset w ∷ xs) = ⊥

-- events of which none is refused
abbrev pub Taken : List Event → Type 0
Taken [] = Unit {0}
Taken (x ∷ xs) = (bad_event x ≡ false) × Taken xs

pub record Watches (t : List Entry) (cs : List Call) (n : ℕ) : Type 0 where
  -- no call adds an entry or takes one away, and an event answers how the entry then is
  pub size : length (table_after t cs) ≡ length t
  pub answers : (x : Event) → is_finished (event_reply t n x) ≡ true → status_reply (event_table t n x) n ≡ event_reply t n x
  -- "Beats, looks and resets of one entry change no other entry's answers": they are the same after any other calls with the same events for n, refused
  -- ones aside
  pub apart : (ds : List Call) → own n cs ≡ own n ds → AnswersAlike n (table_after t cs) (table_after t ds)
  -- an entry is what its own events made of it
  pub own_events : bad_entry (length t) n ≡ false → entry_at (table_after t cs) n ≡ after_all (own n cs) (entry_at t n)
  -- "failed holds until reset"
  pub failed_holds : value_at 0 (status_reply t n) ≡ health_number Failed → NoReset (own n cs) → AnswersAlike n (table_after t cs) t
  -- "a fresh or reset entry waits, its looks taking nothing off, until its next beat"
  pub waits : (l k : ℕ) → status_reply t n ≡ finished (health_number Waiting ∷ l ∷ []) → own n cs ≡ replicate k Look
      → status_reply (table_after t cs) n ≡ finished (health_number Waiting ∷ l ∷ [])
  pub reset_waits : (w k : ℕ) → is_finished (event_reply t n (Reset w)) ≡ true → own n cs ≡ Reset w ∷ replicate k Look
      → status_reply (table_after t cs) n ≡ finished (health_number Waiting ∷ 2 ∷ [])
  -- "A silent controller (not failed before its last beat, of value v, nor reset since) is failed at look v + 2 after it and no sooner"
  pub silent : (v k : ℕ) → is_finished (event_reply t n (Beat v)) ≡ true → (value_at 0 (status_reply t n) ≡ health_number Failed → ⊥)
      → own n cs ≡ Beat v ∷ replicate k Look → (value_at 0 (status_reply (table_after t cs) n) ≡ health_number Failed) ↔ (v + 2 ≤ k)

-- STEADY PERIODS

-- the BEATs of a run by start tick and value, as `LaidSteps.values` of demand 2 has them
abbrev pub beats_of_run : Course → List (ℕ × ℕ)
beats_of_run k =
    let σ = settings_of k.settings in
    let t = laid_total k.settings k.file in
    map (λ x. (x, 1)) (multiples σ.window 0 (t - σ.beat)) ++ (t - σ.beat, ceiling (σ.period - t) σ.window) ∷ []

-- what beats the watcher hears: in period n those of demand 2, each at the period's begin + its start + B, and later periods add none
pub record HearsBeats (k : Course) : Type 0 where
  pub in_period : (n c : ℕ) → beats_ending c (begins k n) (steps_in k n) ≡ listed_ending (begins k n + (settings_of k.settings).beat) c (beats_of_run k)
  pub in_all : (c d : ℕ) → beats_in (begins k) (steps_in k) (suc c + d) c ≡ beats_at k c

-- of the calls those for entry n are a reset with the file's H before any tick r, j looks at once, and what m ticks from r on bring; looks
-- come from any tick a on
pub record NeverFailed (k : Course) (a j r m : ℕ) : Type 0 where
  -- none of these events is one that is refused
  pub taken : Taken (watched_from k a j r m)
  -- "a prepared task in steady periods .. is never failed"
  pub never_failed : (t : List Entry) (cs : List Call) (n : ℕ) → bad_entry (length t) n ≡ false → own n cs ≡ watched_from k a j r m
      → value_at 0 (status_reply (table_after t cs) n) ≡ health_number Failed → ⊥

-- W-201

pub record Watching : Type 0 where
  pub rules : (e : Entry) → Rules e
  -- "a fresh .. entry waits"
  pub fresh_waits : health_of (fresh_of 0) ≡ Waiting
  pub watches : (t : List Entry) (cs : List Call) (n : ℕ) → Watches t cs n
  pub hears : (k : Course) → Steady k → HearsBeats k
  pub steady : (k : Course) → Steady k → (a j r m : ℕ) → NeverFailed k a j r m
