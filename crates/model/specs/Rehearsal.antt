-- Document 01, "Stopping and taking up", its second paragraph: the chain of calls as `rehearse` makes it, and what demand 3 says of it.
use Rattle.std.specs.Prelude.{ℕ, ◌*◌, ◌-◌, ◌<◌, ◌≡◌, ◌↔◌, Bool, true, false, not, ◌||◌, ◌&&◌, List, [], ◌∷◌, eqb, length, replicate, Option, None, Some, Result}
use Rattle.model.specs.Limits.{file_length, variable_count, port_count, image_length}
use Rattle.model.specs.Settings.{settings_of}
use Rattle.model.specs.Runs.{Buffers}
use Rattle.model.specs.Answers.{Verdict, finished, bit, rehearsed, and_then, is_finished, value_at}
use Rattle.model.specs.Replies.{turn_down, Loan, steps_of, run_reply, stop_reply}
use Rattle.model.specs.Timeline.{ended_by, last_save_end}
use Rattle.model.specs.Chain.{Set, Outputs, Chain, LentSet, equalising, laying_out, plain_loan, whole_loan, stopped_loan}
use Rattle.model.specs.Chain.{has_image, taking_up, taken_up_buffers, image_tick, End, end_of, run_end, plain_end_one, plain_end_two}
use Rattle.model.specs.declared.Rehearsed.{Rehearsed}
use Rattle.model.specs.declared.Refusal.{Refusal}

-- ENDS

abbrev pub same_list : List ℕ → List ℕ → Bool
same_list [] [] = true
same_list [] (y ∷ ys) = false
same_list (x ∷ xs) [] = false
same_list (x ∷ xs) (y ∷ ys) = eqb x y && same_list xs ys

-- "Ends are alike when the 16 variables, 8 levels, 8 marks and the answers on overrun are equal"
abbrev pub same_end : End → End → Bool
same_end a b =
    same_list a.buffers.variables b.buffers.variables && same_list a.buffers.levels b.buffers.levels
    && same_list a.buffers.marks b.buffers.marks && eqb a.overran b.overran

-- THE CHAIN

abbrev pub set_of : List ℕ → List ℕ → Set
set_of v ins = record { variables = v; inputs = ins }

-- its buffers are its own, and hold zeros before
unfoldable pub room : List ℕ
room = replicate file_length 0

abbrev pub zero_outputs : Outputs
zero_outputs = record { levels = replicate port_count 0; marks = replicate port_count 0 }

abbrev pub stop_tick : Option ℕ → ℕ
stop_tick None = 0
stop_tick (Some c) = c

abbrev pub chain : List ℕ → List ℕ → Set → Set → Option ℕ → Chain
chain s task x y stop = record {
  settings = s;
  task = task;
  equalised_room = room;
  laid_room = room;
  one = x;
  two = y;
  plain_one = zero_outputs;
  plain_two = zero_outputs;
  whole = zero_outputs;
  stopped = zero_outputs;
  image = replicate image_length 0;
  spare = replicate variable_count 0;
  stop = stop_tick stop;
}

-- a run c of the prepared form, whole, beside the end a of the task as written
abbrev pub whole_of : End → ℕ → Loan → Verdict
whole_of a total c = and_then (run_reply c) (finished (bit (same_end a (run_end c)) ∷ length c.file ∷ total ∷ value_at 0 (run_reply c) ∷ []))

-- one that was stopped and taken up, from an image at tick t or from the start
abbrev pub taken_of : End → ℕ → Loan → ℕ → Bool → ℕ → Verdict → Buffers → Verdict
taken_of a total c stop saved t up b =
    and_then up (finished (bit (same_end a (end_of up b)) ∷ length c.file ∷ total ∷ value_at 0 up ∷ stop ∷ bit saved ∷ t ∷ (stop - t) ∷ []))

abbrev pub stopped_of : End → ℕ → Loan → List ℕ → List ℕ → ℕ → Verdict
stopped_of a total c image spare stop =
    and_then (stop_reply c image stop)
    (taken_of a total c stop (has_image c image stop) (image_tick c image stop) (taking_up c image spare stop) (taken_up_buffers c image spare stop))

-- the prepared form on the second set
abbrev pub second : Option ℕ → Chain → Verdict
second None k = whole_of (plain_end_one k) (value_at 1 (laying_out k)) (whole_loan k)
second (Some c) k = stopped_of (plain_end_one k) (value_at 1 (laying_out k)) (stopped_loan k) k.image k.spare k.stop

-- "variables not 16" (row 10): both sets are looked at before they are copied for the runs
abbrev pub bad_sets : ℕ → ℕ → Bool
bad_sets x y = not (eqb x variable_count) || not (eqb y variable_count)

-- each call in turn, up to the first that refuses
unfoldable pub rehearsal : Option ℕ → Chain → Verdict
rehearsal stop k =
    and_then (equalising k)
    (and_then (laying_out k)
    (turn_down 10 (bad_sets (length k.one.variables) (length k.two.variables))
    (and_then (run_reply (plain_loan k k.one k.plain_one)) (second stop k))))

-- WHAT DEMAND 3 SAYS OF IT

-- "stopped once, at whichever tick before its end"
abbrev pub Early : Option ℕ → Chain → Type 0
Early None k = Unit {0}
Early (Some c) k = k.stop < value_at 0 (run_reply (whole_loan k))

-- the task was prepared without refusal, the sets have the table's lengths, and the stop is before the end
pub record Admitted (stop : Option ℕ) (k : Chain) : Type 0 where
  pub equalised : is_finished (equalising k) ≡ true
  pub laid : is_finished (laying_out k) ≡ true
  pub one : LentSet k.one
  pub two : LentSet k.two
  pub early : Early stop k

-- demand 3: "The ticks run twice are the stop tick less the end of the last finished checkpoint, or the stop tick itself if there is none, and always
-- fewer than the checkpoint spacing in the settings."
abbrev pub Twice : Option ℕ → Chain → Verdict → Type 0
Twice None k r = Unit {0}
Twice (Some c) k r =
    (value_at 7 r ≡ k.stop - last_save_end 0 0 (ended_by k.stop 0 (steps_of (stopped_loan k))))
    × (value_at 7 r < (settings_of k.settings).spacing * (settings_of k.settings).window)

-- not refused once prepared, and alike exactly when the plain ends are
pub record Confirms (stop : Option ℕ) (k : Chain) (r : Verdict) : Type 0 where
  pub finishes : is_finished r ≡ true
  pub alike : (value_at 0 r ≡ 1) ↔ (plain_end_one k ≡ plain_end_two k)
  pub twice : Twice stop k r

pub record Rehearses (s task : List ℕ) (x y : Set) (stop : Option ℕ) (r : Result Rehearsed Refusal) : Type 0 where
  pub reply : rehearsed r ≡ rehearsal stop (chain s task x y stop)
  pub confirms : Admitted stop (chain s task x y stop) → Confirms stop (chain s task x y stop) (rehearsed r)
