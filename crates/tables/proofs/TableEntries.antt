-- The numbers that C holds stand for the watcher's entries: what a call answers and leaves of the numbers, the watcher's own call does of the entries.
use Prim.Native.Nat.{ℕ, zero, suc, ◌+◌, ◌*◌, ◌-◌, ◌%◌, ◌/◌, ◌<◌}
use native.Mathlib.Omega.{arith}
use mathlib.Core.Path.{◌≡◌, refl, ap, sym, ◌∙◌}
use mathlib.Core.Bool.{Bool, true, false, cond, not, ◌||◌, true≢false}
use mathlib.Core.List.{List, [], ◌∷◌}
use borrow.Author.Tests.{eqb-true, not-false}
use lib.{Dec.eqb, ListN.length, ListN.get_or, ListN.set, ListN.length-set}
use Rattle.model.specs.declared.{Entry.Entry, Event.Event}
use Rattle.model.specs.declared.Event.TheVariants.{Beat, Look, Reset}
use Rattle.model.specs.{Answers.Verdict, Answers.finished, Answers.refused, Answers.kept, Replies.turn_down}
use Rattle.model.specs.Watching.{has_failed, health_of, unless_failed, with_left, after, bad_entry, bad_event, told, entry_at, event_reply, event_table, status_reply}
use Rattle.laws.proofs.Shapes.{neither}
use Rattle.theory.proofs.WatchTables.{in_table}
use Rattle.tables.specs.Numbers.{entry_from, bad_table, mark_after, entry_over, numbers_reply, numbers_status, numbers_table, entries_of, TablesStand}

-- THE ENTRIES

-- an entry's three numbers lie in the table
numbers_within : (l n : ℕ) → bad_table l n ≡ false → 3 * n + 2 < l
numbers_within l n e =
    let q = neither (not (eqb (l % 3) 0)) (bad_entry (l / 3) n) e in
    omega (arith, in_table (l / 3) n q.1, eqb-true (l % 3) 0 (not-false (eqb (l % 3) 0) q.0))

entries_length : (t : List ℕ) → length (entries_of t) ≡ length t / 3
entries_length [] = refl
entries_length (l ∷ []) = refl
entries_length (l ∷ w ∷ []) = refl
entries_length (l ∷ w ∷ m ∷ t) = omega (arith, entries_length t)

-- entry n's numbers stand at 3 n
further : (n k : ℕ) → 3 * suc n + k ≡ suc (suc (suc (3 * n + k)))
further n k = omega arith

further_0 : (n : ℕ) → 3 * suc n ≡ suc (suc (suc (3 * n)))
further_0 n = omega arith

entry_is : (t : List ℕ) (n : ℕ) → 3 * n + 2 < length t → entry_from t (3 * n) ≡ entry_at (entries_of t) n
entry_is [] n h = absurd (omega arith)
entry_is (l ∷ []) n h = absurd (omega arith)
entry_is (l ∷ w ∷ []) n h = absurd (omega arith)
entry_is (l ∷ w ∷ m ∷ t) zero h = refl
entry_is (l ∷ w ∷ m ∷ t) (suc n) h = rw (further n 1, further n 2, further_0 n) (entry_is t n (omega arith))

-- an entry written over them
entry_over_is : (t : List ℕ) (n : ℕ) (e : Entry) (m : ℕ) → 3 * n + 2 < length t → not (eqb m 0) ≡ e.waiting
    → entries_of (entry_over t (3 * n) e m) ≡ set (entries_of t) n e
entry_over_is [] n e m h marked = absurd (omega arith)
entry_over_is (l ∷ []) n e m h marked = absurd (omega arith)
entry_over_is (l ∷ w ∷ []) n e m h marked = absurd (omega arith)
entry_over_is (l ∷ w ∷ o ∷ t) zero e m h marked = rw marked refl
entry_over_is (l ∷ w ∷ o ∷ t) (suc n) e m h marked =
    rw (further n 1, further n 2, further_0 n)
    (ap (λ (es : List Entry). entry_from (l ∷ w ∷ o ∷ t) 0 ∷ es) (entry_over_is t n e m (omega arith) marked))

-- THE MARK

-- a beat or a look makes no entry wait
waits_still : (o : Bool) (e f : Entry) → (f.waiting ≡ true → e.waiting ≡ true) → (cond o e f).waiting ≡ true → e.waiting ≡ true
waits_still true e f h w = w
waits_still false e f h w = h w

mark_kept : (old : ℕ) (waited waits : Bool) → not (eqb old 0) ≡ waited → (waits ≡ true → waited ≡ true) → not (eqb (cond waits old 0) 0) ≡ waits
mark_kept old waited true is h = is ∙ h refl
mark_kept old waited false is h = refl

mark_stands : (x : Event) (e : Entry) (old : ℕ) → not (eqb old 0) ≡ e.waiting
    → not (eqb (mark_after x old (after x e).waiting) 0) ≡ (after x e).waiting
mark_stands (Beat v) e old is =
    mark_kept old e.waiting (after (Beat v) e).waiting is
    (waits_still (has_failed (health_of e)) e (with_left (v + 2) e) (λ w. absurd (true≢false (sym w))))
mark_stands Look e old is =
    mark_kept old e.waiting (after Look e).waiting is
    (waits_still e.waiting e (unless_failed e (with_left (e.left - 1) e))
    (waits_still (has_failed (health_of e)) e (with_left (e.left - 1) e) (λ w. absurd (true≢false (sym w)))))
mark_stands (Reset w) e old is = refl

-- THE CALLS

same_reply : (o p : Bool) (x y : Verdict) → o ≡ p → (o ≡ false → x ≡ y) → turn_down 13 o x ≡ turn_down 13 p y
same_reply true p x y e f = rw (sym e) refl
same_reply false p x y e f = rw (sym e) (f refl)

same_table : (o p : Bool) (xs ys t u : List ℕ) (v : List Entry) → o ≡ p → (o ≡ false → entries_of u ≡ v)
    → entries_of (kept (turn_down 13 o (finished xs)) u t) ≡ kept (turn_down 13 p (finished ys)) v (entries_of t)
same_table true p xs ys t u v e f = rw (sym e) refl
same_table false p xs ys t u v e f = rw (sym e) (f refl)

module _ (t : List ℕ) (n : ℕ) where
  abbrev old : Entry
  old = entry_from t (3 * n)

  abbrev bad : Event → Bool
  bad x = bad_table (length t) n || bad_event x

  same_cause : length t % 3 ≡ 0 → bad_table (length t) n ≡ bad_entry (length (entries_of t)) n
  same_cause whole = rw (whole, entries_length t) refl

  lies_within : (x : Event) → bad x ≡ false → 3 * n + 2 < length t
  lies_within x good = numbers_within (length t) n (neither (bad_table (length t) n) (bad_event x) good).0

  same_after : (x : Event) → bad x ≡ false → after x old ≡ after x (entry_at (entries_of t) n)
  same_after x good = ap (after x) (entry_is t n (lies_within x good))

  replaced : (x : Event) → bad x ≡ false
      → entries_of (entry_over t (3 * n) (after x old) (mark_after x (get_or t (3 * n + 2) 0) (after x old).waiting))
      ≡ set (entries_of t) n (after x (entry_at (entries_of t) n))
  replaced x good =
      entry_over_is t n (after x old) _ (lies_within x good) (mark_stands x old (get_or t (3 * n + 2) 0) refl) ∙ ap (set (entries_of t) n) (same_after x good)

-- no call changes how long the table is
same_size : (v : Verdict) (t : List ℕ) (i : ℕ) (e : Entry) (m : ℕ) → length (kept v (entry_over t i e m) t) ≡ length t
same_size (finished xs) t i e m =
    length-set (set (set t i e.left) (i + 1) e.window) (i + 2) m ∙ length-set (set t i e.left) (i + 1) e.window ∙ length-set t i e.left
same_size (refused n xs) t i e m = refl

pub tables_stand : TablesStand
unfolding numbers_reply numbers_table numbers_status event_reply event_table status_reply
tables_stand t n whole =
    let cause = same_cause t n whole in
    record {
      reply = λ x. same_reply _ _ _ _ (ap (λ (o : Bool). o || bad_event x) cause) (λ good. ap told (same_after t n x good));
      table = λ x. same_table _ _ _ _ t _ _ (ap (λ (o : Bool). o || bad_event x) cause) (replaced t n x);
      size = λ x.
          let e = after x (entry_from t (3 * n)) in
          same_size (numbers_reply t n x) t (3 * n) e (mark_after x (get_or t (3 * n + 2) 0) e.waiting);
      status = same_reply _ _ _ _ cause (λ good. ap told (entry_is t n (numbers_within (length t) n good)));
    }
