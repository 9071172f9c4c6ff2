-- What the calls that run a file answer and leave, once nothing refuses: whole, stopped, and taken up.
use Prim.Native.Nat.{ℕ, ◌≤◌, ◌<◌}
use mathlib.Core.Path.{◌≡◌, refl, ap, ◌∙◌}
use mathlib.Core.{Bool.true, Bool.false, Bool.not, List.List, List.[], List.◌∷◌}
use lib.{Dec.eqb, ListN.length}
use borrow.Author.Tests.{not-false, eqb-true, eq-eqb, lt-leb, le-ltb}
use Rattle.model.specs.declared.Form.{Form}
use Rattle.model.specs.{Settings.settings_of, Trees.Block, Trees.file_tree, Answers.finished, Answers.bit, Chain.Outputs, Chain.lend}
use Rattle.model.specs.Runs.{Step, duration, Buffers, leave, cleared, run}
use Rattle.model.specs.Stopping.{upto, Image, image_of, start, take_up}
use Rattle.model.specs.Replies.{saved_at, bad_buffers, bad_image_length, ended, steps_of, run_reply, run_buffers, image_at, is_saved, stop_reply, stop_buffers, image_over, stop_image}
use Rattle.model.specs.Replies.{taken_up, taken_buffers, after_save, resume_reply, resume_buffers, restart_reply, restart_buffers}
use Rattle.laws.proofs.Shapes.{neither}
use Rattle.theory.proofs.Accepted.{Runnable, readied}

-- what steps from an image on leave, with the outputs o before
abbrev pub onward : List Step → Image → Outputs → Buffers
onward es m o = leave es (record { variables = m.variables; levels = o.levels; marks = o.marks })

-- the table's lengths
pub record LentLengths (ins v : List ℕ) (o : Outputs) : Type 0 where
  pub inputs : length ins ≡ 8
  pub variables : length v ≡ 16
  pub levels : length o.levels ≡ 8
  pub marks : length o.marks ≡ 8

pub lengths_good : (s : List ℕ) (f : Form) (file ins v : List ℕ) (o : Outputs) → LentLengths ins v o → bad_buffers (lend s f file ins v o) ≡ false
lengths_good s f file ins v o l =
    rw (eq-eqb (length v) 16 l.variables, eq-eqb (length ins) 8 l.inputs, eq-eqb (length o.levels) 8 l.levels, eq-eqb (length o.marks) 8 l.marks)

pub good_lengths : (s : List ℕ) (f : Form) (file ins v : List ℕ) (o : Outputs) → bad_buffers (lend s f file ins v o) ≡ false → LentLengths ins v o
good_lengths s f file ins v o h =
    let q = neither _ (not (eqb (length o.marks) 8)) h in
    let r = neither _ (not (eqb (length o.levels) 8)) q.0 in
    let t = neither (not (eqb (length v) 16)) (not (eqb (length ins) 8)) r.0 in
    record {
      inputs = eqb-true (length ins) 8 (not-false (eqb (length ins) 8) t.1);
      variables = eqb-true (length v) 16 (not-false (eqb (length v) 16) t.0);
      levels = eqb-true (length o.levels) 8 (not-false (eqb (length o.levels) 8) r.1);
      marks = eqb-true (length o.marks) 8 (not-false (eqb (length o.marks) 8) q.1);
    }

-- the steps of a run
pub steps : (s : List ℕ) (f : Form) (file : List ℕ) (b : Block) → file_tree file ≡ b → (ins v : List ℕ) (o : Outputs)
    → steps_of (lend s f file ins v o) ≡ run (settings_of s) ins b 0 v
unfolding steps_of
steps s f file b e ins v o = rw e

module _ (s : List ℕ) (f : Form) (file : List ℕ) (b : Block) (r : Runnable s f file b) (ins v : List ℕ) (o : Outputs)
    (h : bad_buffers (lend s f file ins v o) ≡ false) where
  the_steps : steps_of (lend s f file ins v o) ≡ run (settings_of s) ins b 0 v
  the_steps = steps s f file b r.tree ins v o

  -- WHOLE

  pub run_steps : run_reply (lend s f file ins v o) ≡ ended 0 (steps_of (lend s f file ins v o))
  unfolding run_reply
  run_steps = readied s f file b r ins v o h false (ended 0 (steps_of (lend s f file ins v o))) refl

  pub run_answer : run_reply (lend s f file ins v o) ≡ ended 0 (run (settings_of s) ins b 0 v)
  run_answer = run_steps ∙ ap (ended 0) the_steps

  pub run_leaves : run_buffers (lend s f file ins v o) ≡ leave (run (settings_of s) ins b 0 v) (cleared v)
  unfolding run_buffers
  run_leaves = rw (run_answer, the_steps)

  -- STOPPED

  module _ (image : List ℕ) (has_room : length image ≡ 72) (stop : ℕ) (early : stop < duration (run (settings_of s) ins b 0 v)) where
    image_at_is : image_at (lend s f file ins v o) stop ≡ saved_at stop (run (settings_of s) ins b 0 v) v
    unfolding image_at
    image_at_is = rw the_steps

    pub stop_answer : stop_reply (lend s f file ins v o) image stop ≡ finished (stop ∷ 0 ∷ bit (is_saved (saved_at stop (run (settings_of s) ins b 0 v) v)) ∷ [])
    unfolding stop_reply image_at
    stop_answer =
        readied s f file b r ins v o h (bad_image_length image) _ (rw (eq-eqb (length image) 72 has_room))
        ∙ rw (the_steps, lt-leb (duration (run (settings_of s) ins b 0 v)) stop early)

    pub stop_leaves : stop_buffers (lend s f file ins v o) image stop ≡ leave (upto stop (run (settings_of s) ins b 0 v)) (cleared v)
    unfolding stop_buffers
    stop_leaves = rw (stop_answer, the_steps)

    pub stop_image_is : stop_image (lend s f file ins v o) image stop ≡ image_over (saved_at stop (run (settings_of s) ins b 0 v) v) image
    unfolding stop_image
    stop_image_is = rw (stop_answer, image_at_is)

  -- TAKEN UP

  pub taken : (m : Image) → taken_up (lend s f file ins v o) m ≡ take_up (settings_of s) ins b m
  unfolding taken_up
  taken m = rw r.tree

  taken_leaves : (m : Image) → taken_buffers (lend s f file ins v o) m ≡ onward (take_up (settings_of s) ins b m) m o
  unfolding taken_buffers
  taken_leaves m = rw (taken m)

  pub restart_answer : restart_reply (lend s f file ins v o) ≡ ended 0 (take_up (settings_of s) ins b (start v))
  unfolding restart_reply
  restart_answer = readied s f file b r ins v o h false _ refl ∙ ap (ended 0) (taken (start v))

  pub restart_leaves : restart_buffers (lend s f file ins v o) ≡ onward (take_up (settings_of s) ins b (start v)) (start v) o
  unfolding restart_buffers
  restart_leaves = rw (restart_answer, taken_leaves (start v))

  module _ (image : List ℕ) (m : Image) (reads : image_of image ≡ m) (whole : length image ≡ 72)
      (after : after_save file m.index ≡ true) (early : m.tick ≤ (settings_of s).period) where
    pub resume_answer : resume_reply (lend s f file ins v o) image ≡ ended m.tick (take_up (settings_of s) ins b m)
    unfolding resume_reply
    resume_answer =
        readied s f file b r ins v o h (bad_image_length image) _ (rw (eq-eqb (length image) 72 whole))
        ∙ rw (reads, after, le-ltb (settings_of s).period m.tick early, taken m)

    pub resume_leaves : resume_buffers (lend s f file ins v o) image ≡ onward (take_up (settings_of s) ins b m) m o
    unfolding resume_buffers
    resume_leaves = rw (resume_answer, reads, taken_leaves m)
