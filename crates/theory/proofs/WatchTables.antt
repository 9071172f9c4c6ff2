-- A table of the watcher, and calls one after another: an entry is what its own events made of it, and so are its answers.
use Prim.Native.Nat.{ℕ, zero, suc, ◌<◌}
use native.Mathlib.Omega.{arith}
use mathlib.Core.Path.{◌≡◌, refl, ap, sym, ◌∙◌}
use mathlib.Core.Bool.{Bool, true, false, cond, ◌||◌}
use mathlib.Core.List.{List, [], ◌∷◌}
use lib.{Dec.eqb, Dec.leb, Dec.ltb, Seq.get_or-set_same, Seq.get_or-set_other}
use lib.ListN.{length, set, length-set, replicate}
use borrow.Author.Tests.{eqb-true, eqb-false, leb-false}
use Rattle.model.specs.declared.{Entry.Entry, Event.Event}
use Rattle.model.specs.declared.Event.TheVariants.{Beat, Look, Reset}
use Rattle.model.specs.declared.Health.{Health}
use Rattle.model.specs.declared.Health.TheVariants.{Waiting, Well, Suspect, Failed}
use Rattle.model.specs.{Limits.table_entries, Replies.turn_down}
use Rattle.model.specs.Answers.{Verdict, finished, refused, kept, is_finished, value_at, health_number}
use Rattle.model.specs.Watching.{health_of, fresh_of, after, bad_entry, bad_event, told, entry_at, event_reply, event_table, status_reply}
use Rattle.model.specs.Watching.{Call, table_after, own, after_all}
use Rattle.laws.proofs.Shapes.{neither}
use Rattle.theory.specs.Watching.{AnswersAlike, NoReset}
use Rattle.theory.proofs.WatchRules.{number_failed, waiting_looked, told_waiting, rules}

-- EVENTS ONE AFTER ANOTHER

-- a failed entry stays as it is, and a waiting one at looks
failed_stays : (xs : List Event) (e : Entry) → health_of e ≡ Failed → NoReset xs → after_all xs e ≡ e
failed_stays [] e f none = refl
failed_stays (Beat v ∷ xs) e f none = rw ((rules e).failed_beat v f) (failed_stays xs e f none)
failed_stays (Look ∷ xs) e f none = rw ((rules e).failed_look f) (failed_stays xs e f none)
failed_stays (Reset w ∷ xs) e f none = absurd none

pub waiting_stays : (k : ℕ) (e : Entry) → e.waiting ≡ true → after_all (replicate k Look) e ≡ e
waiting_stays zero e w = refl
waiting_stays (suc k) e w = ap (after_all (replicate k Look)) (waiting_looked e w) ∙ waiting_stays k e w

-- WHAT AN ANSWER SHOWS

-- not refused
pub accepted : (t : List Entry) (n : ℕ) (x : Event) → is_finished (event_reply t n x) ≡ true → (bad_entry (length t) n ≡ false) × (bad_event x ≡ false)
unfolding event_reply
accepted t n x e = neither (bad_entry (length t) n) (bad_event x) (go (bad_entry (length t) n || bad_event x) e)
  where
    go : (o : Bool) → is_finished (turn_down 13 o (told (after x (entry_at t n)))) ≡ true → o ≡ false
    go true e = let z : ◌≡◌ {A = ℕ} 0 1 = cc in absurd (omega arith)
    go false e = refl

pub status_told : (t : List Entry) (n : ℕ) → bad_entry (length t) n ≡ false → status_reply t n ≡ told (entry_at t n)
unfolding status_reply
status_told t n e = rw e

-- an entry that answers failed
pub failed_status : (t : List Entry) (n : ℕ) → value_at 0 (status_reply t n) ≡ health_number Failed
    → (bad_entry (length t) n ≡ false) × (health_of (entry_at t n) ≡ Failed)
unfolding status_reply
failed_status t n e = go (bad_entry (length t) n) refl e
  where
    go : (o : Bool) → bad_entry (length t) n ≡ o → value_at 0 (turn_down 13 o (told (entry_at t n))) ≡ health_number Failed
        → (bad_entry (length t) n ≡ false) × (health_of (entry_at t n) ≡ Failed)
    go true b e = absurd (omega arith)
    go false b e = (b, number_failed (health_of (entry_at t n)) e)

-- an entry that answers that it waits
waiting_health : (h : Health) → health_number h ≡ health_number Waiting → h ≡ Waiting
waiting_health Waiting e = refl
waiting_health Well e = absurd (omega arith)
waiting_health Suspect e = absurd (omega arith)
waiting_health Failed e = absurd (omega arith)

waiting_status : (t : List Entry) (n l : ℕ) → status_reply t n ≡ finished (health_number Waiting ∷ l ∷ [])
    → (bad_entry (length t) n ≡ false) × ((entry_at t n).waiting ≡ true)
unfolding status_reply
waiting_status t n l e = go (bad_entry (length t) n) refl e
  where
    go : (o : Bool) → bad_entry (length t) n ≡ o → turn_down 13 o (told (entry_at t n)) ≡ finished (health_number Waiting ∷ l ∷ [])
        → (bad_entry (length t) n ≡ false) × ((entry_at t n).waiting ≡ true)
    go true b e = let z : ◌≡◌ {A = ℕ} 0 1 = cc in absurd (omega arith)
    go false b e = (b, told_waiting (entry_at t n).waiting (entry_at t n).left (waiting_health (health_of (entry_at t n)) (ap (value_at 0) e)))

-- the same entry gives the same answers
same_row : (o : Bool) (x y : Verdict) → (o ≡ false → x ≡ y) → turn_down 13 o x ≡ turn_down 13 o y
same_row true x y f = refl
same_row false x y f = f refl

pub answers_alike : (t u : List Entry) (n : ℕ) → length t ≡ length u → (bad_entry (length u) n ≡ false → entry_at t n ≡ entry_at u n) → AnswersAlike n t u
unfolding status_reply event_reply
answers_alike t u n l f = record {
  status = rw l (same_row (bad_entry (length u) n) (told (entry_at t n)) (told (entry_at u n)) (λ b. ap told (f b)));
  events = λ x.
      rw l
      (same_row (bad_entry (length u) n || bad_event x) (told (after x (entry_at t n))) (told (after x (entry_at u n)))
      (λ b. ap (λ (e : Entry). told (after x e)) (f (neither (bad_entry (length u) n) (bad_event x) b).0)));
}

-- ONE CALL

kept_length : (r : Verdict) (t : List Entry) (n : ℕ) (e : Entry) → length (kept r (set t n e) t) ≡ length t
kept_length (finished xs) t n e = length-set t n e
kept_length (refused m xs) t n e = refl

other_kept : (r : Verdict) (t : List Entry) (m n : ℕ) (e : Entry) → (n ≡ m → ⊥) → entry_at (kept r (set t m e) t) n ≡ entry_at t n
other_kept (finished xs) t m n e ne = get_or-set_other t m n e (fresh_of 0) ne
other_kept (refused k xs) t m n e ne = refl

event_length : (t : List Entry) (n : ℕ) (x : Event) → length (event_table t n x) ≡ length t
unfolding event_table
event_length t n x = kept_length (event_reply t n x) t n (after x (entry_at t n))

-- another entry stays, and the event's own becomes what the event makes of it
event_other : (t : List Entry) (m n : ℕ) (x : Event) → (n ≡ m → ⊥) → entry_at (event_table t m x) n ≡ entry_at t n
unfolding event_table
event_other t m n x = other_kept (event_reply t m x) t m n (after x (entry_at t m))

pub in_table : (l n : ℕ) → bad_entry l n ≡ false → n < l
in_table l n b = leb-false l n (neither (ltb table_entries l) (leb l n) b).1

event_own : (t : List Entry) (n : ℕ) (x : Event) → bad_entry (length t) n ≡ false
    → entry_at (event_table t n x) n ≡ cond (bad_event x) (entry_at t n) (after x (entry_at t n))
unfolding event_table event_reply
event_own t n x b = rw b (go (bad_event x))
  where
    go : (o : Bool) → entry_at (kept (turn_down 13 o (told (after x (entry_at t n)))) (set t n (after x (entry_at t n))) t) n
        ≡ cond o (entry_at t n) (after x (entry_at t n))
    go true = refl
    go false = get_or-set_same t n (after x (entry_at t n)) (fresh_of 0) (in_table (length t) n b)

event_told : (t : List Entry) (n : ℕ) (x : Event) → bad_entry (length t) n ≡ false → bad_event x ≡ false → event_reply t n x ≡ told (after x (entry_at t n))
unfolding event_reply
event_told t n x b c = rw (b, c)

pub event_answers : (t : List Entry) (n : ℕ) (x : Event) → is_finished (event_reply t n x) ≡ true → status_reply (event_table t n x) n ≡ event_reply t n x
event_answers t n x finishes =
    let a = accepted t n x finishes in
    let own : entry_at (event_table t n x) n ≡ after x (entry_at t n) = rw a.1 at (event_own t n x a.0) in
    status_told (event_table t n x) n (rw (event_length t n x) a.0) ∙ ap told own ∙ sym (event_told t n x a.0 a.1)

-- ONE CALL AFTER ANOTHER

pub table_length : (cs : List Call) (t : List Entry) → length (table_after t cs) ≡ length t
table_length [] t = refl
table_length (c ∷ cs) t = table_length cs (event_table t c.entry c.event) ∙ event_length t c.entry c.event

pub own_events : (cs : List Call) (t : List Entry) (n : ℕ) → bad_entry (length t) n ≡ false → entry_at (table_after t cs) n ≡ after_all (own n cs) (entry_at t n)
own_events [] t n b = refl
own_events (c ∷ cs) t n b = go (eqb c.entry n) refl (own_events cs u n (rw (event_length t c.entry c.event) b))
  where
    u : List Entry
    u = event_table t c.entry c.event

    taken : (o : Bool) → after_all (own n cs) (cond o (entry_at t n) (after c.event (entry_at t n)))
        ≡ after_all (cond o (own n cs) (c.event ∷ own n cs)) (entry_at t n)
    taken true = refl
    taken false = refl

    go : (o : Bool) → eqb c.entry n ≡ o → entry_at (table_after u cs) n ≡ after_all (own n cs) (entry_at u n)
        → entry_at (table_after u cs) n ≡ after_all (cond o (cond (bad_event c.event) (own n cs) (c.event ∷ own n cs)) (own n cs)) (entry_at t n)
    go true q ih =
        let e = eqb-true c.entry n q in
        ih ∙ ap (after_all (own n cs)) (rw e (event_own t n c.event b)) ∙ taken (bad_event c.event)
    go false q ih = ih ∙ ap (after_all (own n cs)) (event_other t c.entry n c.event (λ e. eqb-false c.entry n q (sym e)))

module _ (t : List Entry) (cs : List Call) (n : ℕ) where
  -- after any other calls with the same events for n
  pub apart : (ds : List Call) → own n cs ≡ own n ds → AnswersAlike n (table_after t cs) (table_after t ds)
  apart ds same =
      answers_alike (table_after t cs) (table_after t ds) n (table_length cs t ∙ sym (table_length ds t))
      (λ b.
      let here : bad_entry (length t) n ≡ false = rw (table_length ds t) at b in
      own_events cs t n here ∙ ap (λ (xs : List Event). after_all xs (entry_at t n)) same ∙ sym (own_events ds t n here))

  -- where the entry's own events make it e
  pub status_after : (e : Entry) → bad_entry (length t) n ≡ false → after_all (own n cs) (entry_at t n) ≡ e → status_reply (table_after t cs) n ≡ told e
  status_after e b same = status_told (table_after t cs) n (rw (table_length cs t) b) ∙ ap told (own_events cs t n b ∙ same)

  -- failed holds until reset
  pub failed_holds : value_at 0 (status_reply t n) ≡ health_number Failed → NoReset (own n cs) → AnswersAlike n (table_after t cs) t
  failed_holds failed none =
      let f = failed_status t n failed in
      answers_alike (table_after t cs) t n (table_length cs t) (λ b. own_events cs t n b ∙ failed_stays (own n cs) (entry_at t n) f.1 none)

  -- a waiting entry, and a reset one
  pub waits : (l k : ℕ) → status_reply t n ≡ finished (health_number Waiting ∷ l ∷ []) → own n cs ≡ replicate k Look
      → status_reply (table_after t cs) n ≡ finished (health_number Waiting ∷ l ∷ [])
  waits l k e mine =
      let w = waiting_status t n l e in
      status_after (entry_at t n) w.0 (rw mine (waiting_stays k (entry_at t n) w.1)) ∙ sym (status_told t n w.0) ∙ e

  pub reset_waits : (w k : ℕ) → is_finished (event_reply t n (Reset w)) ≡ true → own n cs ≡ Reset w ∷ replicate k Look
      → status_reply (table_after t cs) n ≡ finished (health_number Waiting ∷ 2 ∷ [])
  reset_waits w k taken mine =
      let a = accepted t n (Reset w) taken in
      status_after (fresh_of w) a.0 (rw mine (waiting_stays k (fresh_of w) refl))
