-- W-202 and the chain of demand 3: each call may be handed settings of either form, where their numbers are equal. The proof is in proofs/Mixing.antt.
use Rattle.std.specs.Prelude.{ℕ, ◌*◌, ◌≡◌, true, cond, List, length, take}
use Rattle.model.specs.declared.Form.TheVariants.{Task, Laid}
use Rattle.model.specs.Settings.{settings_of}
use Rattle.model.specs.Runs.{Step, Buffers}
use Rattle.model.specs.Answers.{Verdict, is_finished, value_at}
use Rattle.model.specs.Replies.{equalise_reply, equalise_out, lay_out_reply, lay_out_out, Loan, steps_of, run_reply}
use Rattle.model.specs.Replies.{stop_reply, stop_image, resume_reply, resume_buffers, restart_reply, restart_buffers}
use Rattle.model.specs.Chain.{Set, Outputs, Chain, Lent, equalising, equalised_file, laying_out, laid_file, lend, plain_loan, whole_loan, stopped_loan}
use Rattle.model.specs.Chain.{has_image, outputs_left, again, taking_up, image_tick, run_twice, End, end_of, run_end, plain_end_one, plain_end_two, whole_end, stopped_end}
use Rattle.theory.specs.Widened.{Alike, under}
use Rattle.theory.specs.Demand3.{Unseen}

-- all that demand 3 speaks of: what each call answers, both files, how each run ends, the steps of the stopped run, the image's tick, the ticks
-- run twice and the spacing
pub record Results : Type 0 where
  pub equalising : Verdict
  pub equalised : List ℕ
  pub laying_out : Verdict
  pub laid : List ℕ
  pub plain_one : Verdict
  pub plain_two : Verdict
  pub whole : Verdict
  pub stop : Verdict
  pub taking_up : Verdict
  pub plain_end_one : End
  pub plain_end_two : End
  pub whole_end : End
  pub stopped_end : End
  pub steps : List Step
  pub image_tick : ℕ
  pub twice : ℕ
  pub spacing : ℕ

-- with the chain's own settings for every call
abbrev pub results_of : Chain → Results
results_of k = record {
  equalising = equalising k;
  equalised = equalised_file k;
  laying_out = laying_out k;
  laid = laid_file k;
  plain_one = run_reply (plain_loan k k.one k.plain_one);
  plain_two = run_reply (plain_loan k k.two k.plain_two);
  whole = run_reply (whole_loan k);
  stop = stop_reply (stopped_loan k) k.image k.stop;
  taking_up = taking_up (stopped_loan k) k.image k.spare k.stop;
  plain_end_one = plain_end_one k;
  plain_end_two = plain_end_two k;
  whole_end = whole_end k;
  stopped_end = stopped_end k;
  steps = steps_of (stopped_loan k);
  image_tick = image_tick (stopped_loan k) k.image k.stop;
  twice = run_twice (stopped_loan k) k.image k.stop;
  spacing = (settings_of k.settings).spacing * (settings_of k.settings).window;
}

-- settings for each call
pub record Forms : Type 0 where
  pub equalising : List ℕ
  pub laying_out : List ℕ
  pub plain_one : List ℕ
  pub plain_two : List ℕ
  pub whole : List ℕ
  pub stopped : List ℕ
  pub taken_up : List ℕ

-- "under settings of the same numbers throughout" (document 01)
pub record AlikeForms (s : List ℕ) (m : Forms) : Type 0 where
  pub equalising : Alike s m.equalising
  pub laying_out : Alike s m.laying_out
  pub plain_one : Alike s m.plain_one
  pub plain_two : Alike s m.plain_two
  pub whole : Alike s m.whole
  pub stopped : Alike s m.stopped
  pub taken_up : Alike s m.taken_up

-- the calls of a chain as `Chain` has them, each with its own settings
module _ (m : Forms) (k : Chain) where
  abbrev pub equalising_by : Verdict
  equalising_by = equalise_reply m.equalising k.task (length k.equalised_room)

  abbrev pub equalised_by : List ℕ
  equalised_by = take (value_at 0 equalising_by) (equalise_out m.equalising k.task k.equalised_room)

  abbrev pub laying_out_by : Verdict
  laying_out_by = lay_out_reply m.laying_out equalised_by (length k.laid_room)

  abbrev pub laid_by : List ℕ
  laid_by = take (value_at 0 laying_out_by) (lay_out_out m.laying_out equalised_by k.laid_room)

  abbrev pub plain_by : List ℕ → Set → Outputs → Loan
  plain_by s x o = lend s Task k.task x.inputs x.variables o

  abbrev pub prepared_by : List ℕ → Outputs → Loan
  prepared_by s o = lend s Laid laid_by k.two.inputs k.two.variables o

  abbrev pub stopped_by : Loan
  stopped_by = prepared_by m.stopped k.stopped

  -- taken up with these variables lent
  abbrev pub up_by : List ℕ → Loan
  up_by v = under m.taken_up (again stopped_by v (outputs_left stopped_by k.image k.stop))

  abbrev pub taking_up_by : Verdict
  taking_up_by =
      cond (has_image stopped_by k.image k.stop)
      (resume_reply (up_by k.spare) (stop_image stopped_by k.image k.stop))
      (restart_reply (up_by k.two.variables))

  abbrev pub taken_up_buffers_by : Buffers
  taken_up_buffers_by =
      cond (has_image stopped_by k.image k.stop)
      (resume_buffers (up_by k.spare) (stop_image stopped_by k.image k.stop))
      (restart_buffers (up_by k.two.variables))

  abbrev pub results_by : Results
  results_by = record {
    equalising = equalising_by;
    equalised = equalised_by;
    laying_out = laying_out_by;
    laid = laid_by;
    plain_one = run_reply (plain_by m.plain_one k.one k.plain_one);
    plain_two = run_reply (plain_by m.plain_two k.two k.plain_two);
    whole = run_reply (prepared_by m.whole k.whole);
    stop = stop_reply stopped_by k.image k.stop;
    taking_up = taking_up_by;
    plain_end_one = run_end (plain_by m.plain_one k.one k.plain_one);
    plain_end_two = run_end (plain_by m.plain_two k.two k.plain_two);
    whole_end = run_end (prepared_by m.whole k.whole);
    stopped_end = end_of taking_up_by taken_up_buffers_by;
    steps = steps_of stopped_by;
    image_tick = image_tick stopped_by k.image k.stop;
    twice = run_twice stopped_by k.image k.stop;
    spacing = (settings_of m.stopped).spacing * (settings_of m.stopped).window;
  }

-- demand 3 holds of the results of a chain whose calls are handed either form
pub record MixedUnseen (m : Forms) (k : Chain) : Type 0 where
  pub results : results_by m k ≡ results_of k
  pub unseen : Unseen k

abbrev pub Mixing : Type 0
Mixing =
    (m : Forms) (k : Chain) → Lent k → AlikeForms k.settings m → is_finished (equalising_by m k) ≡ true → is_finished (laying_out_by m k) ≡ true
    → MixedUnseen m k
