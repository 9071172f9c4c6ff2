-- How C holds the watcher's table: three numbers for each entry, its count and 2 more, its window, and a mark, which is 1 while it waits.
use Rattle.std.specs.Prelude.{ℕ, ◌+◌, ◌*◌, ◌%◌, ◌/◌, ◌≡◌, Bool, cond, not, ◌||◌, List, [], ◌∷◌, eqb, length, get_or, set}
use Rattle.model.specs.declared.Entry.{Entry}
use Rattle.model.specs.declared.Event.{Event}
use Rattle.model.specs.declared.Event.TheVariants.{Beat, Look, Reset}
use Rattle.model.specs.Answers.{Verdict, kept}
use Rattle.model.specs.Replies.{turn_down}
use Rattle.model.specs.Watching.{after, bad_entry, bad_event, told, event_reply, event_table, status_reply}

abbrev pub entry_numbers : ℕ
entry_numbers = 3

-- an entry's numbers stand at i; any mark but 0 counts as waiting. A fresh entry is 2, 0, 1, and three zeros are one that has failed.
abbrev pub entry_from : List ℕ → ℕ → Entry
entry_from t i = record { left = get_or t i 0; window = get_or t (i + 1) 0; waiting = not (eqb (get_or t (i + 2) 0) 0) }

-- refusal 13 also where the length is no multiple of three
abbrev pub bad_table : ℕ → ℕ → Bool
bad_table l n = not (eqb (l % entry_numbers) 0) || bad_entry (l / entry_numbers) n

unfoldable pub numbers_reply : List ℕ → ℕ → Event → Verdict
numbers_reply t n x = turn_down 13 (bad_table (length t) n || bad_event x) (told (after x (entry_from t (entry_numbers * n))))

unfoldable pub numbers_status : List ℕ → ℕ → Verdict
numbers_status t n = turn_down 13 (bad_table (length t) n) (told (entry_from t (entry_numbers * n)))

-- the mark afterwards: of an entry that waits 1 after a reset and else as it was, and 0 of any other
abbrev pub mark_set : Event → ℕ → ℕ
mark_set (Beat v) old = old
mark_set Look old = old
mark_set (Reset w) old = 1

abbrev pub mark_after : Event → ℕ → Bool → ℕ
mark_after x old waits = cond waits (mark_set x old) 0

abbrev pub entry_over : List ℕ → ℕ → Entry → ℕ → List ℕ
entry_over t i e mark = set (set (set t i e.left) (i + 1) e.window) (i + 2) mark

unfoldable pub numbers_table : List ℕ → ℕ → Event → List ℕ
numbers_table t n x =
    let i = entry_numbers * n in
    let e = after x (entry_from t i) in
    kept (numbers_reply t n x) (entry_over t i e (mark_after x (get_or t (i + 2) 0) e.waiting)) t

-- the entries that the numbers stand for
abbrev pub entries_of : List ℕ → List Entry
entries_of [] = []
entries_of (l ∷ []) = []
entries_of (l ∷ w ∷ []) = []
entries_of (l ∷ w ∷ m ∷ t) = record { left = l; window = w; waiting = not (eqb m 0) } ∷ entries_of t

-- What C is answered and left is what the watcher's own calls answer and leave of these entries.
pub record StandsFor (t : List ℕ) (n : ℕ) : Type 0 where
  pub reply : (x : Event) → numbers_reply t n x ≡ event_reply (entries_of t) n x
  pub table : (x : Event) → entries_of (numbers_table t n x) ≡ event_table (entries_of t) n x
  pub size : (x : Event) → length (numbers_table t n x) ≡ length t
  pub status : numbers_status t n ≡ status_reply (entries_of t) n

abbrev pub TablesStand : Type 0
TablesStand = (t : List ℕ) (n : ℕ) → length t % entry_numbers ≡ 0 → StandsFor t n
