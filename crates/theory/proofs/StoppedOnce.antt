-- A laid file, run, stopped once and taken up, over replies: it ends as the whole run does.
use Prim.Native.Nat.{ℕ, ◌+◌, ◌*◌, ◌≤◌, ◌<◌}
use native.Mathlib.Omega.{arith}
use mathlib.Core.Path.{◌≡◌, refl, ap, ap₂, sym, ◌∙◌, subst}
use mathlib.Core.Bool.{Bool, true, false, cond}
use mathlib.Core.List.{List, ◌∷◌, ◌++◌}
use lib.ListN.{length, replicate}
use Rattle.model.specs.declared.Form.TheVariants.{Laid}
use Rattle.model.specs.{Settings.settings_of, Trees.Block}
use Rattle.model.specs.Runs.{Step, duration, outputs_after, level, mark, overran, leave, cleared, run}
use Rattle.model.specs.Stopping.{upto, Image, Saved, none, saved, image_bytes, image_of, start, take_up}
use Rattle.model.specs.{Answers.bit, Answers.value_at, Answers.is_finished, Placement.Fits, Placement.Placed, Placement.StepsPlaced}
use Rattle.model.specs.Replies.{saved_at, Loan, bad_buffers, ended, is_saved, image_over, stop_buffers, stop_image, taken_up, resume_reply, resume_buffers, restart_reply, restart_buffers}
use Rattle.model.specs.Chain.{Outputs, lend, has_image, taking_up, taken_up_buffers, taken_up_steps, image_tick, End, end_of, taken_up_end}
use Rattle.laws.proofs.{Images.image_length_is, Images.image_back}
use Rattle.model.proofs.{Injective.bit_back}
use Rattle.theory.proofs.{Within.run_within, Placing.placed_loop_free, Placing.placed_run, Twice.saved_tick, Twice.few_twice}
use Rattle.theory.proofs.{Outputs.length_outputs, Resuming.or_start, Resuming.taken_up_is, Checkpoints.checkpoint, Accepted.Runnable}
use Rattle.theory.proofs.{Files.file_of}
use Rattle.theory.proofs.Stops.{upto_beyond, beyond_late, cut_off}
use Rattle.theory.proofs.Running.{LentLengths, lengths_good, onward, stop_answer, stop_leaves, stop_image_is}
use Rattle.theory.proofs.Running.{taken, restart_answer, restart_leaves, resume_answer, resume_leaves}

-- the end that steps from the start lead to
abbrev pub end_from : List Step → List ℕ → End
end_from es v = record { buffers = leave es (cleared v); overran = bit (overran es) }

-- what the run that is taken up answers and leaves, against the steps es of the whole run
pub record EndsAs (c : Loan) (image spare : List ℕ) (stop : ℕ) (es : List Step) (v : List ℕ) (z : Saved) : Type 0 where
  pub finishes : is_finished (taking_up c image spare stop) ≡ true
  pub end_tick : value_at 0 (taking_up c image spare stop) ≡ duration es
  pub end : taken_up_end c image spare stop ≡ end_from es v
  pub image_tick_is : image_tick c image stop ≡ saved_tick z

start_tick : (v : List ℕ) (y : Saved) → (or_start v y).tick ≡ saved_tick y
start_tick v none = refl
start_tick v (saved m) = refl

module _ (s : List ℕ) (b : Block) (r : Runnable s Laid (file_of b) b) (fits : Fits (settings_of s)) (placed : Placed (settings_of s) b 0)
    (ins v : List ℕ) (o : Outputs) (l : LentLengths ins v o)
    (image : List ℕ) (image_room : length image ≡ 72) (spare : List ℕ) (spare_room : length spare ≡ 16)
    (stop : ℕ) (early : stop < duration (run (settings_of s) ins b 0 v)) where
  -- the steps of the whole run, the last image at the stop, and the outputs that the stop left
  abbrev es : List Step
  es = run (settings_of s) ins b 0 v

  abbrev z : Saved
  z = saved_at stop es v

  abbrev left : Outputs
  left = record { levels = outputs_after level (upto stop es) (replicate 8 0); marks = outputs_after mark (upto stop es) (replicate 8 0) }

  abbrev c : Loan
  c = lend s Laid (file_of b) ins v o

  good : bad_buffers c ≡ false
  good = lengths_good s Laid (file_of b) ins v o l

  left_good : (w : List ℕ) → length w ≡ 16 → bad_buffers (lend s Laid (file_of b) ins w left) ≡ false
  left_good w h =
      lengths_good s Laid (file_of b) ins w left (record {
        inputs = l.inputs;
        variables = h;
        levels = length_outputs level (upto stop es) (replicate 8 0);
        marks = length_outputs mark (upto stop es) (replicate 8 0);
      })

  has : has_image c image stop ≡ is_saved z
  has = rw (stop_answer s Laid (file_of b) b r ins v o good image image_room stop early) (bit_back (is_saved z))

  state : stop_buffers c image stop ≡ leave (upto stop es) (cleared v)
  state = stop_leaves s Laid (file_of b) b r ins v o good image image_room stop early

  written : stop_image c image stop ≡ image_over z image
  written = stop_image_is s Laid (file_of b) b r ins v o good image image_room stop early

  -- the calls as what the stop left decides them
  taking_up_is : taking_up c image spare stop
      ≡ cond (is_saved z) (resume_reply (lend s Laid (file_of b) ins spare left) (image_over z image)) (restart_reply (lend s Laid (file_of b) ins v left))
  taking_up_is = rw (has, state, written)

  taken_up_leaves : taken_up_buffers c image spare stop
      ≡ cond (is_saved z) (resume_buffers (lend s Laid (file_of b) ins spare left) (image_over z image)) (restart_buffers (lend s Laid (file_of b) ins v left))
  taken_up_leaves = rw (has, state, written)

  image_is : image_tick c image stop ≡ cond (is_saved z) (image_of (image_over z image)).tick 0
  image_is = rw (has, written)

  steps_are : taken_up_steps c image stop ≡ cond (is_saved z) (taken_up c (image_of (image_over z image))) (taken_up c (start v))
  steps_are = rw (has, written)

  -- taking up is not refused and does the steps from m on
  record Taken (m : Image) : Type 0 where
    answer : taking_up c image spare stop ≡ ended m.tick (take_up (settings_of s) ins b m)
    leaves : taken_up_buffers c image spare stop ≡ onward (take_up (settings_of s) ins b m) m left
    tick : image_tick c image stop ≡ m.tick
    steps : taken_up_steps c image stop ≡ take_up (settings_of s) ins b m

  from : (y : Saved) → z ≡ y → Taken (or_start v y)
  from none e =
      let q = left_good v l.variables in
      record {
        answer = taking_up_is ∙ rw e (restart_answer s Laid (file_of b) b r ins v left q);
        leaves = taken_up_leaves ∙ rw e (restart_leaves s Laid (file_of b) b r ins v left q);
        tick = image_is ∙ rw e;
        steps = steps_are ∙ rw e (taken s Laid (file_of b) b r ins v o good (start v));
      }
  from (saved m) e =
      let q = left_good spare spare_room in
      let k = checkpoint (settings_of s) ins b (placed_loop_free (settings_of s) b 0 placed) v stop m e in
      let sixteen = k.as_many ∙ l.variables in
      let back = image_back m sixteen in
      let long = image_length_is m sixteen in
      let in_time : m.tick ≤ (settings_of s).period = omega (arith, k.in_time, (run_within (settings_of s) ins b 0).in_all v, r.in_time) in
      record {
        answer = taking_up_is ∙ rw e (resume_answer s Laid (file_of b) b r ins spare left q (image_bytes m) m back long k.after_save in_time);
        leaves = taken_up_leaves ∙ rw e (resume_leaves s Laid (file_of b) b r ins spare left q (image_bytes m) m back long k.after_save in_time);
        tick = image_is ∙ rw (e, back);
        steps = steps_are ∙ rw (e, back) (taken s Laid (file_of b) b r ins v o good m);
      }

  pub tick_taken : image_tick c image stop ≡ (or_start v z).tick
  tick_taken = (from z refl).tick

  pub steps_taken : taken_up_steps c image stop ≡ take_up (settings_of s) ins b (or_start v z)
  steps_taken = (from z refl).steps

  pub answered : taking_up c image spare stop ≡ ended (image_tick c image stop) (taken_up_steps c image stop)
  answered = (from z refl).answer ∙ sym (ap₂ ended tick_taken steps_taken)

  -- it ends as the whole run
  pub ends_alike : EndsAs c image spare stop es v z
  ends_alike =
      let k = from z refl in
      let t = taken_up_is (settings_of s) ins b (placed_loop_free (settings_of s) b 0 placed) v stop in
      let leaves : onward (take_up (settings_of s) ins b (or_start v z)) (or_start v z) left ≡ leave es (cleared v) =
      rw (t.same_variables, t.same_outputs level (replicate 8 0), t.same_outputs mark (replicate 8 0)) in
      record {
        finishes = rw k.answer;
        end_tick = rw k.answer t.same_end;
        end = ap₂ end_of k.answer (k.leaves ∙ leaves) ∙ ap (λ (x : Bool). record { buffers = leave es (cleared v); overran = bit x }) t.same_overrun;
        image_tick_is = k.tick ∙ start_tick v z;
      }

  -- fewer than K × H ticks are run twice
  pub soon : stop < saved_tick z + (settings_of s).spacing * (settings_of s).window
  soon =
      let n = cut_off stop es early in
      let parts : es ≡ upto stop es ++ n.next ∷ n.later = upto_beyond stop es ∙ ap (λ (x : List Step). upto stop es ++ x) n.are in
      omega (
        arith,
        beyond_late stop es n.next n.later n.are,
        few_twice (settings_of s) fits (upto stop es) n.next n.later v (subst (StepsPlaced (settings_of s) 0) parts (placed_run (settings_of s) ins b 0 0 placed v)),
      )

  pub image_early : saved_tick z ≤ stop
  image_early = go z refl
    where
      go : (y : Saved) → z ≡ y → saved_tick y ≤ stop
      go none e = omega arith
      go (saved m) e = (checkpoint (settings_of s) ins b (placed_loop_free (settings_of s) b 0 placed) v stop m e).in_time
