-- W-201, "Watcher on the spare box": what a beat, a look and a reset make of an entry, how the entry then is, and what the watcher's calls answer.
use Rattle.std.specs.Prelude.{ℕ, zero, suc, ◌+◌, ◌-◌, Bool, true, false, cond, ◌||◌, List, [], ◌∷◌, eqb, leb, ltb, ℤ, pos, negsuc, length, get_or, set}
use Rattle.model.specs.declared.Entry.{Entry}
use Rattle.model.specs.declared.Event.{Event}
use Rattle.model.specs.declared.Event.TheVariants.{Beat, Look, Reset}
use Rattle.model.specs.declared.Health.{Health}
use Rattle.model.specs.declared.Health.TheVariants.{Waiting, Well, Suspect, Failed}
use Rattle.model.specs.Limits.{most_ticks, table_entries}
use Rattle.model.specs.Answers.{Verdict, finished, kept, health_number}
use Rattle.model.specs.Replies.{turn_down}

-- AN ENTRY

-- its count: `left` holds 2 more, since none is below −2
abbrev pub count_of : ℕ → ℤ
count_of zero = negsuc 1
count_of (suc zero) = negsuc 0
count_of (suc (suc k)) = pos k

-- "its count alone tells well (0 or more), suspect (−1) and failed (−2, as in source document 003, or less)"
abbrev pub told_by : ℤ → Health
told_by (pos k) = Well
told_by (negsuc zero) = Suspect
told_by (negsuc (suc k)) = Failed

-- "Once an entry no longer waits"
abbrev pub health_of : Entry → Health
health_of e = cond e.waiting Waiting (told_by (count_of e.left))

abbrev pub has_failed : Health → Bool
has_failed Waiting = false
has_failed Well = false
has_failed Suspect = false
has_failed Failed = true

-- WHAT HAPPENS TO IT

-- "failed holds until reset, beats and looks changing nothing"
abbrev pub unless_failed : Entry → Entry → Entry
unless_failed e new = cond (has_failed (health_of e)) e new

-- it waits no longer, and so much is left
abbrev pub with_left : ℕ → Entry → Entry
with_left l e = record { left = l; window = e.window; waiting = false }

-- "A BEAT sets the count to its value"
abbrev pub beaten : ℕ → Entry → Entry
beaten v e = unless_failed e (with_left (v + 2) e)

-- "a look .. takes 1 off"; of an entry that waits "its looks taking nothing off"
abbrev pub looked : Entry → Entry
looked e = cond e.waiting e (unless_failed e (with_left (e.left - 1) e))

-- "a reset gives the window and count 0, and a fresh or reset entry waits"; a fresh one was given no window
abbrev pub fresh_of : ℕ → Entry
fresh_of w = record { left = 2; window = w; waiting = true }

abbrev pub after : Event → Entry → Entry
after (Beat v) e = beaten v e
after Look e = looked e
after (Reset w) e = fresh_of w

-- REFUSAL 13

-- "a table of more than 32 entries, an entry not in it"
abbrev pub bad_entry : ℕ → ℕ → Bool
bad_entry size n = ltb table_entries size || leb size n

-- "a new window of 0 or a beat value above 1,000,000"
abbrev pub bad_event : Event → Bool
bad_event (Beat v) = ltb most_ticks v
bad_event Look = false
bad_event (Reset w) = eqb w 0

-- THE CALLS

-- how an entry is, and what is left
abbrev pub told : Entry → Verdict
told e = finished (health_number (health_of e) ∷ e.left ∷ [])

abbrev pub entry_at : List Entry → ℕ → Entry
entry_at t n = get_or t n (fresh_of 0)

-- `beat`, `look` and `reset`: refusal 13 is "tried before all else"
unfoldable pub event_reply : List Entry → ℕ → Event → Verdict
event_reply t n x = turn_down 13 (bad_entry (length t) n || bad_event x) (told (after x (entry_at t n)))

-- the table afterwards: the one entry is replaced
unfoldable pub event_table : List Entry → ℕ → Event → List Entry
event_table t n x = kept (event_reply t n x) (set t n (after x (entry_at t n))) t

unfoldable pub status_reply : List Entry → ℕ → Verdict
status_reply t n = turn_down 13 (bad_entry (length t) n) (told (entry_at t n))

-- ONE CALL AFTER ANOTHER

-- an event for an entry
pub record Call : Type 0 where
  pub entry : ℕ
  pub event : Event

abbrev pub table_after : List Entry → List Call → List Entry
table_after t [] = t
table_after t (c ∷ cs) = table_after (event_table t c.entry c.event) cs

-- the events for entry n that are not refused
abbrev pub own : ℕ → List Call → List Event
own n [] = []
own n (c ∷ cs) = cond (eqb c.entry n) (cond (bad_event c.event) (own n cs) (c.event ∷ own n cs)) (own n cs)

-- what events make of an entry
abbrev pub after_all : List Event → Entry → Entry
after_all [] e = e
after_all (x ∷ xs) e = after_all xs (after x e)
