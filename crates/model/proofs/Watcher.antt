-- W-201: tables and calls, one after another, and what the calls answer. They test the definitions of `specs/Watching.antt`.
use Prim.Native.Nat.{ℕ}
use mathlib.Core.{Path.refl, List.List, List.[], List.◌∷◌}
use lib.ListN.{replicate}
use Rattle.model.specs.declared.{Entry.Entry, Event.Event}
use Rattle.model.specs.declared.Event.TheVariants.{Beat, Look, Reset}
use Rattle.model.specs.Answers.{Verdict}
use Rattle.model.specs.Watching.{fresh_of, event_reply, event_table, status_reply, Call, table_after}
use Rattle.model.proofs.TurnedDown.{Case, ◌says◌, Answered}

-- a table of so many fresh entries
abbrev fresh : ℕ → List Entry
fresh n = replicate n (fresh_of 0)

-- of two entries, how entry n is after these events of entry 0
abbrev calls : List Event → List Call
calls [] = []
calls (x ∷ xs) = record { entry = 0; event = x } ∷ calls xs

abbrev entry : ℕ → List Event → Verdict
entry n xs = status_reply (table_after (fresh 2) (calls xs)) n

pub answers : List Case
answers =
    -- "a fresh or reset entry waits, its looks taking nothing off, until its next beat"
    (entry 0 [] says 0 ∷ 0 ∷ 2 ∷ []) ∷ (entry 0 (Look ∷ Look ∷ Look ∷ []) says 0 ∷ 0 ∷ 2 ∷ [])
    -- "A BEAT sets the count to its value", "a look .. takes 1 off", "well (0 or more), suspect (−1) and failed (−2 ..)"
    ∷ (entry 0 (Beat 1 ∷ []) says 0 ∷ 1 ∷ 3 ∷ []) ∷ (entry 0 (Beat 5 ∷ Beat 1 ∷ []) says 0 ∷ 1 ∷ 3 ∷ [])
    ∷ (entry 0 (Beat 1 ∷ Look ∷ []) says 0 ∷ 1 ∷ 2 ∷ []) ∷ (entry 0 (Beat 1 ∷ Look ∷ Look ∷ []) says 0 ∷ 2 ∷ 1 ∷ [])
    ∷ (entry 0 (Beat 1 ∷ Look ∷ Look ∷ Look ∷ []) says 0 ∷ 3 ∷ 0 ∷ []) ∷ (entry 0 (Beat 0 ∷ Look ∷ Beat 0 ∷ []) says 0 ∷ 1 ∷ 2 ∷ [])
    -- "failed holds until reset, beats and looks changing nothing", "a reset gives the window and count 0"
    ∷ (entry 0 (Beat 0 ∷ Look ∷ Look ∷ Beat 9 ∷ Look ∷ []) says 0 ∷ 3 ∷ 0 ∷ [])
    ∷ (entry 0 (Beat 0 ∷ Look ∷ Look ∷ Reset 20 ∷ Look ∷ []) says 0 ∷ 0 ∷ 2 ∷ [])
    -- "change no other entry's answers"
    ∷ (entry 1 (Reset 20 ∷ Beat 0 ∷ Look ∷ Look ∷ []) says 0 ∷ 0 ∷ 2 ∷ [])
    -- "13, a table of more than 32 entries, an entry not in it, a new window of 0 or a beat value above 1,000,000"
    ∷ (status_reply (fresh 32) 31 says 0 ∷ 0 ∷ 2 ∷ []) ∷ (status_reply (fresh 33) 0 says 13 ∷ [])
    ∷ (status_reply (fresh 32) 32 says 13 ∷ []) ∷ (status_reply [] 0 says 13 ∷ [])
    ∷ (event_reply (fresh 1) 0 (Reset 1) says 0 ∷ 0 ∷ 2 ∷ []) ∷ (event_reply (fresh 1) 0 (Reset 0) says 13 ∷ [])
    ∷ (event_reply (fresh 1) 0 (Beat 1000000) says 0 ∷ 1 ∷ 1000002 ∷ []) ∷ (event_reply (fresh 1) 0 (Beat 1000001) says 13 ∷ [])
    -- a refusal changes nothing
    ∷ (entry 0 (Beat 3 ∷ Beat 1000001 ∷ Reset 0 ∷ []) says 0 ∷ 1 ∷ 5 ∷ [])
    ∷ []

pub answered : Answered answers
unfolding answers event_reply event_table status_reply
answered = refl
