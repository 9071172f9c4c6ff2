-- Document 01, "Stopping and taking up", its second paragraph: the chain of calls that demand 3 speaks of, as one composition of replies.
use Rattle.std.specs.Prelude.{ℕ, ◌-◌, Bool, cond, List, ◌≡◌, eqb, length, take}
use Rattle.model.specs.declared.Form.{Form}
use Rattle.model.specs.declared.Form.TheVariants.{Task, Laid}
use Rattle.model.specs.Limits.{variable_count, port_count, image_length}
use Rattle.model.specs.Runs.{Step, Buffers}
use Rattle.model.specs.Stopping.{image_of, start}
use Rattle.model.specs.Answers.{Verdict, value_at}
use Rattle.model.specs.Replies.{equalise_reply, equalise_out, lay_out_reply, lay_out_out, Loan, run_reply, run_buffers}
use Rattle.model.specs.Replies.{stop_reply, stop_buffers, stop_image, taken_up, resume_reply, resume_buffers, restart_reply, restart_buffers}

-- "A set is 16 first variables and 8 inputs; outputs and image buffer have the table's lengths and may hold anything before."
pub record Set : Type 0 where
  pub variables : List ℕ
  pub inputs : List ℕ

pub record Outputs : Type 0 where
  pub levels : List ℕ
  pub marks : List ℕ

-- all that is handed over: the settings, the task, room for both files, two sets, outputs for each run, an image buffer, room for the
-- variables of the run that is taken up from an image, and the stop tick
pub record Chain : Type 0 where
  pub settings : List ℕ
  pub task : List ℕ
  pub equalised_room : List ℕ
  pub laid_room : List ℕ
  pub one : Set
  pub two : Set
  pub plain_one : Outputs
  pub plain_two : Outputs
  pub whole : Outputs
  pub stopped : Outputs
  pub image : List ℕ
  pub spare : List ℕ
  pub stop : ℕ

pub record LentSet (x : Set) : Type 0 where
  pub sixteen : length x.variables ≡ variable_count
  pub eight : length x.inputs ≡ port_count

pub record LentOutputs (x : Outputs) : Type 0 where
  pub levels_eight : length x.levels ≡ port_count
  pub marks_eight : length x.marks ≡ port_count

pub record Lent (k : Chain) : Type 0 where
  pub one_lent : LentSet k.one
  pub two_lent : LentSet k.two
  pub plain_one_lent : LentOutputs k.plain_one
  pub plain_two_lent : LentOutputs k.plain_two
  pub whole_lent : LentOutputs k.whole
  pub stopped_lent : LentOutputs k.stopped
  pub image_lent : length k.image ≡ image_length
  pub spare_lent : length k.spare ≡ variable_count

-- "Laying out gets what equalising wrote and the run what laying out wrote."
abbrev pub equalising : Chain → Verdict
equalising k = equalise_reply k.settings k.task (length k.equalised_room)

abbrev pub equalised_file : Chain → List ℕ
equalised_file k = take (value_at 0 (equalising k)) (equalise_out k.settings k.task k.equalised_room)

abbrev pub laying_out : Chain → Verdict
laying_out k = lay_out_reply k.settings (equalised_file k) (length k.laid_room)

abbrev pub laid_file : Chain → List ℕ
laid_file k = take (value_at 0 (laying_out k)) (lay_out_out k.settings (equalised_file k) k.laid_room)

-- demand 3: "Run .. the task as written on the first set, and its prepared form on the second": what each run is handed over
abbrev pub lend : List ℕ → Form → List ℕ → List ℕ → List ℕ → Outputs → Loan
lend s f file ins v o = record { settings = s; form = f; file = file; inputs = ins; buffers = record { variables = v; levels = o.levels; marks = o.marks } }

abbrev pub plain_loan : Chain → Set → Outputs → Loan
plain_loan k x o = lend k.settings Task k.task x.inputs x.variables o

abbrev pub prepared_loan : Chain → Outputs → Loan
prepared_loan k o = lend k.settings Laid (laid_file k) k.two.inputs k.two.variables o

abbrev pub whole_loan : Chain → Loan
whole_loan k = prepared_loan k k.whole

abbrev pub stopped_loan : Chain → Loan
stopped_loan k = prepared_loan k k.stopped

-- STOPPED ONCE AND TAKEN UP

-- a run c, stopped at a tick with a lent image buffer: whether there is an image, and the outputs that it left
abbrev pub has_image : Loan → List ℕ → ℕ → Bool
has_image c image stop = eqb (value_at 2 (stop_reply c image stop)) 1

abbrev pub outputs_left : Loan → List ℕ → ℕ → Outputs
outputs_left c image stop = record { levels = (stop_buffers c image stop).levels; marks = (stop_buffers c image stop).marks }

-- "Taking up gets that same file and the same inputs, with the image and outputs as the stop left them, or, with no finished SAVE, the
-- first variables at record 0 and tick 0."
abbrev pub again : Loan → List ℕ → Outputs → Loan
again c v o = lend c.settings c.form c.file c.inputs v o

abbrev pub taking_up : Loan → List ℕ → List ℕ → ℕ → Verdict
taking_up c image spare stop =
    cond (has_image c image stop)
    (resume_reply (again c spare (outputs_left c image stop)) (stop_image c image stop))
    (restart_reply (again c c.buffers.variables (outputs_left c image stop)))

abbrev pub taken_up_buffers : Loan → List ℕ → List ℕ → ℕ → Buffers
taken_up_buffers c image spare stop =
    cond (has_image c image stop)
    (resume_buffers (again c spare (outputs_left c image stop)) (stop_image c image stop))
    (restart_buffers (again c c.buffers.variables (outputs_left c image stop)))

-- its steps: "one taken up begins with its image's index, tick and variables, or, without an image, as said under stopping"
abbrev pub taken_up_steps : Loan → List ℕ → ℕ → List Step
taken_up_steps c image stop =
    cond (has_image c image stop) (taken_up c (image_of (stop_image c image stop))) (taken_up c (start c.buffers.variables))

-- demand 3: "The ticks run twice are the stop tick less the end of the last finished checkpoint, or the stop tick itself if there is none"
abbrev pub image_tick : Loan → List ℕ → ℕ → ℕ
image_tick c image stop = cond (has_image c image stop) (image_of (stop_image c image stop)).tick 0

abbrev pub run_twice : Loan → List ℕ → ℕ → ℕ
run_twice c image stop = stop - image_tick c image stop

-- ENDS

-- "Ends are alike when the 16 variables, 8 levels, 8 marks and the answers on overrun are equal; end ticks are not compared."
pub record End : Type 0 where
  pub buffers : Buffers
  pub overran : ℕ

abbrev pub end_of : Verdict → Buffers → End
end_of r b = record { buffers = b; overran = value_at 1 r }

abbrev pub run_end : Loan → End
run_end c = end_of (run_reply c) (run_buffers c)

abbrev pub taken_up_end : Loan → List ℕ → List ℕ → ℕ → End
taken_up_end c image spare stop = end_of (taking_up c image spare stop) (taken_up_buffers c image spare stop)

-- demand 3: "Run, by the meanings in document 01, the task as written on the first set, and its prepared form on the second, whole or stopped
-- once .. and taken up"; and the task as written on the second set
abbrev pub plain_end_one : Chain → End
plain_end_one k = run_end (plain_loan k k.one k.plain_one)

abbrev pub plain_end_two : Chain → End
plain_end_two k = run_end (plain_loan k k.two k.plain_two)

abbrev pub whole_end : Chain → End
whole_end k = run_end (whole_loan k)

abbrev pub stopped_end : Chain → End
stopped_end k = taken_up_end (stopped_loan k) k.image k.spare k.stop
