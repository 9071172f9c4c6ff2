-- The ends of the runs of a chain that equalising and laying out did not refuse.
use Prim.Native.Nat.{ℕ, ◌+◌, ◌*◌, ◌-◌, ◌≤◌, ◌<◌}
use native.Mathlib.Omega.{arith}
use mathlib.Core.Path.{◌≡◌, ap, ap₂, sym, ◌∙◌, subst}
use mathlib.Core.{Bool.true, Bool.false, List.List}
use lib.ListN.{replicate}
use Rattle.model.specs.declared.Form.{Form}
use Rattle.model.specs.declared.Form.TheVariants.{Task, Laid}
use Rattle.model.specs.{Settings.settings_of, Trees.Block, Trees.file_tree, Equalising.equalise, Layout.layout, Stopping.upto, Stopping.none}
use Rattle.model.specs.{Timeline.ended_by, Timeline.last_save_end, Answers.is_finished, Answers.value_at}
use Rattle.model.specs.Runs.{Step, duration, level, mark, run}
use Rattle.model.specs.Replies.{saved_at, Loan, bad_buffers, steps_of, run_reply, stop_reply, ended}
use Rattle.model.specs.Chain.{Set, Outputs, Chain, LentSet, LentOutputs, Lent, equalising, laying_out, laid_file, lend, plain_loan, prepared_loan, whole_loan, stopped_loan}
use Rattle.model.specs.Chain.{taking_up, image_tick, run_twice, End, end_of, run_end, plain_end_two, whole_end, stopped_end}
use Rattle.theory.proofs.Views.{see, same_variables, same_outputs, same_overran}
use Rattle.theory.proofs.{Traces.traced, Twice.saved_tick_is, Stops.upto_ended, Accepted.Runnable, Files.file_of}
use Rattle.theory.proofs.{Prepared.Prepared, Prepared.prepared}
use Rattle.theory.proofs.Running.{LentLengths, lengths_good, steps, run_answer, run_leaves, stop_answer}
use Rattle.theory.proofs.StoppedOnce.{end_from, EndsAs, ends_alike, soon, image_early}

-- equal traces lead to equal ends
same_end : (es fs : List Step) (v : List ℕ) → see traced es ≡ see traced fs → end_from es v ≡ end_from fs v
same_end es fs v e =
    rw (
      same_variables traced es fs e v,
      same_outputs traced es fs e level (replicate 8 0),
      same_outputs traced es fs e mark (replicate 8 0),
      same_overran traced es fs e,
    )

lengths : (x : Set) (o : Outputs) → LentSet x → LentOutputs o → LentLengths x.inputs x.variables o
lengths x o p q = record { inputs = p.eight; variables = p.sixteen; levels = q.levels_eight; marks = q.marks_eight }

-- a run that nothing refuses
run_ends : (s : List ℕ) (f : Form) (file : List ℕ) (b : Block) → Runnable s f file b → (ins v : List ℕ) (o : Outputs) → bad_buffers (lend s f file ins v o) ≡ false
    → run_end (lend s f file ins v o) ≡ end_from (run (settings_of s) ins b 0 v) v
run_ends s f file b r ins v o h = ap₂ end_of (run_answer s f file b r ins v o h) (run_leaves s f file b r ins v o h)

module _ (k : Chain) (lent : Lent k) (equalised : is_finished (equalising k) ≡ true) (laid : is_finished (laying_out k) ≡ true) where
  abbrev s : List ℕ
  s = k.settings

  abbrev t : Block
  t = file_tree k.task

  abbrev b : Block
  b = layout (settings_of s) (equalise (settings_of s) t)

  abbrev ins : List ℕ
  ins = k.two.inputs

  abbrev v : List ℕ
  v = k.two.variables

  -- the steps of the laid file on the second set
  abbrev es : List Step
  es = run (settings_of s) ins b 0 v

  p : Prepared s k.task (laid_file k) t b
  p = prepared k equalised laid

  loan : (o : Outputs) → prepared_loan k o ≡ lend s Laid (file_of b) ins v o
  loan o = ap (λ (file : List ℕ). lend s Laid file ins v o) p.is

  module _ (x : Set) (o : Outputs) (q : LentSet x) (r : LentOutputs o) where
    plain_good : bad_buffers (plain_loan k x o) ≡ false
    plain_good = lengths_good s Task k.task x.inputs x.variables o (lengths x o q r)

    -- the task as written
    pub plain_runs : is_finished (run_reply (plain_loan k x o)) ≡ true
    plain_runs = rw (run_answer s Task k.task t p.plain x.inputs x.variables o plain_good)

    plain_end : run_end (plain_loan k x o) ≡ end_from (run (settings_of s) x.inputs t 0 x.variables) x.variables
    plain_end = run_ends s Task k.task t p.plain x.inputs x.variables o plain_good

  -- the prepared form, whole
  laid_good : (o : Outputs) → LentOutputs o → bad_buffers (lend s Laid (file_of b) ins v o) ≡ false
  laid_good o r = lengths_good s Laid (file_of b) ins v o (lengths k.two o lent.two_lent r)

  whole_answer : run_reply (whole_loan k) ≡ ended 0 es
  whole_answer = ap run_reply (loan k.whole) ∙ run_answer s Laid (file_of b) b p.laid ins v k.whole (laid_good k.whole lent.whole_lent)

  pub whole_runs : is_finished (run_reply (whole_loan k)) ≡ true
  whole_runs = rw whole_answer

  -- on the second set it ends as the task as written
  from_prepared : (e : End) → e ≡ end_from es v → e ≡ plain_end_two k
  from_prepared e q =
      q ∙ same_end es (run (settings_of s) ins t 0 v) v ((p.agrees ins 0 0).at v) ∙ sym (plain_end k.two k.plain_two lent.two_lent lent.plain_two_lent)

  pub whole_same : whole_end k ≡ plain_end_two k
  whole_same =
      from_prepared (whole_end k)
      (ap run_end (loan k.whole) ∙ run_ends s Laid (file_of b) b p.laid ins v k.whole (laid_good k.whole lent.whole_lent))

  -- the prepared form, stopped once and taken up
  module _ (before : k.stop < value_at 0 (run_reply (whole_loan k))) where
    abbrev c : Loan
    c = stopped_loan k

    early : k.stop < duration es
    early = omega (arith, ap (value_at 0) whole_answer)

    l : LentLengths ins v k.stopped
    l = lengths k.two k.stopped lent.two_lent lent.stopped_lent

    ends : EndsAs c k.image k.spare k.stop es v (saved_at k.stop es v)
    ends =
        subst (λ (x : Loan). EndsAs x k.image k.spare k.stop es v (saved_at k.stop es v)) (sym (loan k.stopped))
        (ends_alike s b p.laid p.fits p.placed ins v k.stopped l k.image lent.image_lent k.spare lent.spare_lent k.stop early)

    pub stop_runs : is_finished (stop_reply c k.image k.stop) ≡ true
    stop_runs =
        subst (λ (x : Loan). is_finished (stop_reply x k.image k.stop) ≡ true) (sym (loan k.stopped))
        (rw (stop_answer s Laid (file_of b) b p.laid ins v k.stopped (laid_good k.stopped lent.stopped_lent) k.image lent.image_lent k.stop early))

    pub take_up_runs : is_finished (taking_up c k.image k.spare k.stop) ≡ true
    take_up_runs = ends.finishes

    pub stopped_same : stopped_end k ≡ plain_end_two k
    stopped_same = from_prepared (stopped_end k) ends.end

    -- ticks
    the_steps : steps_of c ≡ es
    the_steps = ap steps_of (loan k.stopped) ∙ steps s Laid (file_of b) b p.laid.tree ins v k.stopped

    pub twice : run_twice c k.image k.stop ≡ k.stop - last_save_end 0 0 (ended_by k.stop 0 (steps_of c))
    twice =
        ap (λ (n : ℕ). k.stop - n)
        (ends.image_tick_is ∙ saved_tick_is (upto k.stop es) 0 v none
        ∙ ap (last_save_end 0 0) (upto_ended k.stop es ∙ ap (ended_by k.stop 0) (sym the_steps)))

    soon_enough : k.stop < image_tick c k.image k.stop + (settings_of s).spacing * (settings_of s).window
    soon_enough =
        rw ends.image_tick_is
        (soon s b p.laid p.fits p.placed ins v k.stopped l k.image lent.image_lent k.spare lent.spare_lent k.stop early)

    no_later : image_tick c k.image k.stop ≤ k.stop
    no_later =
        rw ends.image_tick_is
        (image_early s b p.laid p.fits p.placed ins v k.stopped l k.image lent.image_lent k.spare lent.spare_lent k.stop early)

    pub few : run_twice c k.image k.stop < (settings_of s).spacing * (settings_of s).window
    few = omega (arith, soon_enough, no_later)

    pub counted : k.stop + (value_at 0 (taking_up c k.image k.spare k.stop) - image_tick c k.image k.stop)
        ≡ value_at 0 (run_reply (whole_loan k)) + run_twice c k.image k.stop
    counted = omega (arith, ends.end_tick, no_later, early, ap (value_at 0) whole_answer)
