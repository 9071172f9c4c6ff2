-- DEMAND 3, as one statement over the chain of replies: each part under the words that it answers. The proof is in proofs/Demand3.antt.
use Rattle.std.specs.Prelude.{ℕ, ◌+◌, ◌*◌, ◌-◌, ◌<◌, ◌≡◌, ◌↔◌, true, List, length}
use Rattle.model.specs.Settings.{settings_of}
use Rattle.model.specs.Answers.{finished, refused, is_finished, value_at}
use Rattle.model.specs.Replies.{lay_out_out, prepare_reply, prepare_out, steps_of, run_reply, stop_reply}
use Rattle.model.specs.Timeline.{ended_by, last_save_end}
use Rattle.model.specs.Chain.{Chain, Lent, equalising, equalised_file, laying_out, plain_loan, whole_loan, stopped_loan}
use Rattle.model.specs.Chain.{taking_up, image_tick, run_twice, plain_end_one, plain_end_two, whole_end, stopped_end}

-- of the prepared form stopped once and taken up, for all that is handed over
pub record StopUnseen (k : Chain) : Type 0 where
  -- neither call is refused
  pub stop_runs : is_finished (stop_reply (stopped_loan k) k.image k.stop) ≡ true
  pub take_up_runs : is_finished (taking_up (stopped_loan k) k.image k.spare k.stop) ≡ true
  -- "The two ends are alike .. exactly when the ends of two runs of the task as written, one on each set, are alike"
  pub alike : (plain_end_one k ≡ stopped_end k) ↔ (plain_end_one k ≡ plain_end_two k)
  -- "on one and the same set the prepared form .. stopped and taken up, ends as the task as written does"
  pub same : stopped_end k ≡ plain_end_two k
  -- "The ticks run twice are the stop tick less the end of the last finished checkpoint, or the stop tick itself if there is none"
  pub twice : run_twice (stopped_loan k) k.image k.stop ≡ k.stop - last_save_end 0 0 (ended_by k.stop 0 (steps_of (stopped_loan k)))
  -- they are what the stopped run and the one taken up ran more than the whole one
  pub counted : k.stop + (value_at 0 (taking_up (stopped_loan k) k.image k.spare k.stop) - image_tick (stopped_loan k) k.image k.stop)
      ≡ value_at 0 (run_reply (whole_loan k)) + run_twice (stopped_loan k) k.image k.stop
  -- "and always fewer than the checkpoint spacing in the settings": "The spacing is K × H ticks."
  pub few : run_twice (stopped_loan k) k.image k.stop < (settings_of k.settings).spacing * (settings_of k.settings).window

-- "A stop never shows in the result."
pub record Unseen (k : Chain) : Type 0 where
  -- no run of the task as written is refused, nor of the prepared form
  pub plain_one_runs : is_finished (run_reply (plain_loan k k.one k.plain_one)) ≡ true
  pub plain_two_runs : is_finished (run_reply (plain_loan k k.two k.plain_two)) ≡ true
  pub whole_runs : is_finished (run_reply (whole_loan k)) ≡ true
  -- "The two ends are alike in all variables, in the last level set at each port, or that none was, and in whether a loop overran, exactly
  -- when the ends of two runs of the task as written, one on each set, are alike in all of these."
  pub alike : (plain_end_one k ≡ whole_end k) ↔ (plain_end_one k ≡ plain_end_two k)
  -- "So on one and the same set the prepared form, whole .., ends as the task as written does."
  pub same : whole_end k ≡ plain_end_two k
  -- "stopped once, at whichever tick before its end"
  pub stopped : k.stop < value_at 0 (run_reply (whole_loan k)) → StopUnseen k

-- "Take any task prepared without refusal and any two sets of variables and inputs."
abbrev pub Demand3 : Type 0
Demand3 = (k : Chain) → Lent k → is_finished (equalising k) ≡ true → is_finished (laying_out k) ≡ true → Unseen k

-- "prepared means equalised and then laid out", "Laying out gets what equalising wrote": `prepare` answers and writes what the two calls do, with
-- any buffer lent between them
pub record PreparesAlike (k : Chain) : Type 0 where
  pub answers : (xs : List ℕ) → equalising k ≡ finished xs → prepare_reply k.settings k.task (length k.laid_room) ≡ laying_out k
  pub writes : (xs : List ℕ) → equalising k ≡ finished xs → prepare_out k.settings k.task k.laid_room ≡ lay_out_out k.settings (equalised_file k)
      k.laid_room
  -- a refusal is equalising's, unless the lent buffer was too short
  pub refuses : (n : ℕ) (xs : List ℕ) → equalising k ≡ refused n xs → (n ≡ 9 → ⊥) → prepare_reply k.settings k.task (length k.laid_room) ≡ refused n xs

abbrev pub Preparing : Type 0
Preparing = (k : Chain) → PreparesAlike k
