-- What a call is handed as settings counts only by how it is judged and by its numbers.
use Prim.Native.Nat.{ℕ}
use mathlib.Core.{Path.◌≡◌, List.List}
use lib.ListN.{length}
use Rattle.std.specs.Prelude.{Option, None, Some}
use Rattle.model.specs.declared.{Form.Form}
use Rattle.model.specs.Stopping.{Image}
use Rattle.model.specs.Replies.{reading, time_reply, equalise_reply, equalised_tree, equalise_out, lay_out_reply, laid_tree, lay_out_out, prepare_reply, prepare_out}
use Rattle.model.specs.Replies.{Loan, ready, steps_of, run_reply, run_buffers, image_at, stop_reply, stop_buffers, stop_image}
use Rattle.model.specs.Replies.{taken_up, taken_buffers, resume_reply, resume_buffers, restart_reply, restart_buffers}
use Rattle.model.specs.Chain.{Set, End, equalised_file, prepared_loan, plain_loan, plain_end_one, outputs_left, again}
use Rattle.model.specs.{Limits.file_length, Answers.value_at, Rehearsal.chain, Rehearsal.room, Rehearsal.rehearsal, Rehearsal.whole_of, Rehearsal.stopped_of}
use Rattle.model.specs.{Listing.list_starts, Listing.printed}
use Rattle.theory.specs.Widened.{Alike, SameCalls, under}

module _ (s t : List ℕ) (h : Alike s t) where
  time : (f : Form) (file : List ℕ) → time_reply s f file ≡ time_reply t f file
  unfolding time_reply reading
  time f file = rw (h.judged, h.numbers)

  equalise : (task : List ℕ) (room : ℕ) → equalise_reply s task room ≡ equalise_reply t task room
  unfolding equalise_reply reading
  equalise task room = rw (h.judged, h.numbers)

  equalised : (task out : List ℕ) → equalise_out s task out ≡ equalise_out t task out
  unfolding equalise_out equalised_tree
  equalised task out = rw (equalise task (length out), h.numbers)

  lay_out : (file : List ℕ) (room : ℕ) → lay_out_reply s file room ≡ lay_out_reply t file room
  unfolding lay_out_reply reading
  lay_out file room = rw (h.judged, h.numbers)

  laid : (file out : List ℕ) → lay_out_out s file out ≡ lay_out_out t file out
  unfolding lay_out_out laid_tree
  laid file out = rw (lay_out file (length out), h.numbers)

  prepare : (task : List ℕ) (room : ℕ) → prepare_reply s task room ≡ prepare_reply t task room
  unfolding prepare_reply equalised_tree
  prepare task room = rw (equalise task file_length, h.numbers, lay_out _ room)

  prepared : (task out : List ℕ) → prepare_out s task out ≡ prepare_out t task out
  unfolding prepare_out equalised_tree laid_tree
  prepared task out = rw (prepare task (length out), h.numbers)

  -- RUNS

  run : (c : Loan) → run_reply (under s c) ≡ run_reply (under t c)
  unfolding run_reply ready reading steps_of
  run c = rw (h.judged, h.numbers)

  steps : (c : Loan) → steps_of (under s c) ≡ steps_of (under t c)
  unfolding steps_of
  steps c = rw h.numbers

  steps_taken_up : (c : Loan) (i : Image) → taken_up (under s c) i ≡ taken_up (under t c) i
  unfolding taken_up
  steps_taken_up c i = rw h.numbers

  ran : (c : Loan) → run_buffers (under s c) ≡ run_buffers (under t c)
  unfolding run_buffers steps_of
  ran c = rw (run c, h.numbers)

  run_until : (c : Loan) (image : List ℕ) (stop : ℕ) → stop_reply (under s c) image stop ≡ stop_reply (under t c) image stop
  unfolding stop_reply ready reading steps_of
  run_until c image stop = rw (h.judged, h.numbers)

  stopped : (c : Loan) (image : List ℕ) (stop : ℕ) → stop_buffers (under s c) image stop ≡ stop_buffers (under t c) image stop
  unfolding stop_buffers steps_of
  stopped c image stop = rw (run_until c image stop, h.numbers)

  saved : (c : Loan) (image : List ℕ) (stop : ℕ) → stop_image (under s c) image stop ≡ stop_image (under t c) image stop
  unfolding stop_image image_at steps_of
  saved c image stop = rw (run_until c image stop, h.numbers)

  resume : (c : Loan) (image : List ℕ) → resume_reply (under s c) image ≡ resume_reply (under t c) image
  unfolding resume_reply ready reading taken_up
  resume c image = rw (h.judged, h.numbers)

  resumed : (c : Loan) (image : List ℕ) → resume_buffers (under s c) image ≡ resume_buffers (under t c) image
  unfolding resume_buffers taken_buffers taken_up
  resumed c image = rw (resume c image, h.numbers)

  restart : (c : Loan) → restart_reply (under s c) ≡ restart_reply (under t c)
  unfolding restart_reply ready reading taken_up
  restart c = rw (h.judged, h.numbers)

  restarted : (c : Loan) → restart_buffers (under s c) ≡ restart_buffers (under t c)
  unfolding restart_buffers taken_buffers taken_up
  restarted c = rw (restart c, h.numbers)

  -- LISTINGS

  starts : (task table : List ℕ) → list_starts s task table ≡ list_starts t task table
  unfolding list_starts equalised_tree laid_tree
  starts task table = rw (prepare task file_length, h.numbers)

  listing : (task : List ℕ) → printed s task ≡ printed t task
  unfolding printed equalised_tree laid_tree
  listing task = rw (prepare task file_length, h.numbers)

  -- THE CHAIN

  whole_alike : (a : End) (n : ℕ) (c : Loan) → whole_of a n (under s c) ≡ whole_of a n (under t c)
  whole_alike a n c = rw (run c, ran c)

  stopped_alike : (a : End) (n : ℕ) (c : Loan) (image spare : List ℕ) (stop : ℕ)
      → stopped_of a n (under s c) image spare stop ≡ stopped_of a n (under t c) image spare stop
  stopped_alike a n c image spare stop =
      let o = outputs_left (under t c) image stop in
      let m = stop_image (under t c) image stop in
      rw (
        run_until c image stop,
        stopped c image stop,
        saved c image stop,
        resume (again c spare o) m,
        resumed (again c spare o) m,
        restart (again c c.buffers.variables o),
        restarted (again c c.buffers.variables o),
      )

  rehearse : (task : List ℕ) (x y : Set) (stop : Option ℕ) → rehearsal stop (chain s task x y stop) ≡ rehearsal stop (chain t task x y stop)
  unfolding rehearsal
  rehearse task x y stop = go stop
    where
      go : (z : Option ℕ) → rehearsal z (chain s task x y z) ≡ rehearsal z (chain t task x y z)
      go None =
          let k = chain t task x y None in
          let one = plain_loan k k.one k.plain_one in
          rw (
            equalise task (length room),
            equalised task room,
            lay_out (equalised_file k) (length room),
            laid (equalised_file k) room,
            run one,
            ran one,
            whole_alike (plain_end_one k) (value_at 1 (lay_out_reply t (equalised_file k) (length room))) (prepared_loan k k.whole),
          )
      go (Some c) =
          let k = chain t task x y (Some c) in
          let one = plain_loan k k.one k.plain_one in
          rw (
            equalise task (length room),
            equalised task room,
            lay_out (equalised_file k) (length room),
            laid (equalised_file k) room,
            run one,
            ran one,
            stopped_alike (plain_end_one k) (value_at 1 (lay_out_reply t (equalised_file k) (length room))) (prepared_loan k k.stopped)
                k.image k.spare c,
          )

  pub same_calls : SameCalls s t
  same_calls = record {
    time = time;
    equalise = equalise;
    equalised = equalised;
    lay_out = lay_out;
    laid = laid;
    prepare = prepare;
    prepared = prepared;
    run = run;
    ran = ran;
    run_until = run_until;
    stopped = stopped;
    saved = saved;
    resume = resume;
    resumed = resumed;
    restart = restart;
    restarted = restarted;
    steps = steps;
    steps_taken_up = steps_taken_up;
    rehearse = rehearse;
    starts = starts;
    listing = listing;
  }
