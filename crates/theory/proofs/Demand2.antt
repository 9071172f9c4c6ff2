-- Where each part of demand 2 is proved.
use Prim.Native.Nat.{ℕ, ◌<◌}
use mathlib.Core.Path.{◌≡◌, refl, ap, sym, ◌∙◌}
use mathlib.Core.List.{List, [], ◌∷◌}
use lib.ListN.{length}
use Rattle.model.specs.declared.Settings.{Settings}
use Rattle.model.specs.declared.Form.TheVariants.{Task, Equalised, Laid}
use Rattle.model.specs.{Records.bytes, Settings.settings_of, Layout.layout, Layout.total, Answers.finished, Placement.Fits}
use Rattle.model.specs.{Trees.Block, Trees.linearise, Trees.file_tree, Equalising.F, Equalising.merge, Equalising.equalise}
use Rattle.model.specs.{Stopping.upto, Stopping.none, Stopping.last_image, Standing.OfForm}
use Rattle.model.specs.Runs.{Step, duration, leave, cleared, run}
use Rattle.model.specs.Replies.{saved_at, file_time, equalised_tree, equalise_reply, laid_tree, laid_total, lay_out_reply}
use Rattle.model.specs.Replies.{Loan, steps_of, image_at, stop_reply, stop_buffers, image_over, stop_image}
use Rattle.model.specs.Chain.{Outputs, lend, taken_up_steps, image_tick}
use Rattle.laws.proofs.{Sound.sound_file, Passes.length_file}
use Rattle.theory.proofs.{Times.time_equalise, Lasts.equalised_lasts, TakenUp.laid_again}
use Rattle.theory.proofs.Laid.{time_laid, placed_laid, total_longer, last_start_is, laid_lasts}
use Rattle.theory.proofs.LaidRuns.{Total, LaidFrom, laid_beats, whole_starts, whole_values, whole_saves, cut_values, cut_saves}
use Rattle.theory.proofs.LaidRuns.{save_follows, no_crossing, laid_total_is, loop_free, laid_whole}
use Rattle.theory.proofs.Stops.{beyond, upto_beyond, upto_only, upto_all, upto_ended}
use Rattle.theory.proofs.Accepted.{equalise_accepted, lay_out_accepted, Runnable, timed, stop_accepted}
use Rattle.theory.proofs.Files.{task_runnable, equalised_runnable, equalised_written, laid_runnable, laid_written}
use Rattle.theory.proofs.{Running.good_lengths, Running.steps, Running.run_steps, StoppedOnce.tick_taken, StoppedOnce.steps_taken, StoppedOnce.answered}
use Rattle.theory.specs.Demand2.{Equalises, LaidSteps, TakesUp, LaysOut, Stops, Demand2}

equalises : (s task out xs : List ℕ) → equalise_reply s task (length out) ≡ finished xs → Equalises s task out xs
unfolding equalised_tree equalise
equalises s task out xs e =
    let σ = settings_of s in
    let b = merge 0 (F σ (file_tree task)) in
    let a = equalise_accepted s task (length out) xs e in
    let r = equalised_runnable s task (length out) xs a in
    record {
      answers = sym (ap (λ (n : ℕ). n ∷ file_time s task ∷ []) (length_file b) ∙ a.answers);
      writes = equalised_written s task out xs e;
      task_time = timed s Task task (file_tree task) (task_runnable s task (length out) xs a);
      file_time_is = timed s Equalised (bytes (linearise b)) b r ∙ ap (λ (t : ℕ). finished (t ∷ [])) (time_equalise σ (file_tree task));
      runs = λ ins v o h. record {
        answers = run_steps s Equalised (bytes (linearise b)) b r ins v o h;
        lasts = rw (steps s Equalised (bytes (linearise b)) b r.tree ins v o) ((equalised_lasts σ ins (file_tree task) 0).in_all v);
      };
    }

laid_steps : (σ : Settings) → Fits σ → (t u : ℕ) (es : List Step) → Total σ t → LaidFrom σ t u es → LaidSteps σ t u es
laid_steps σ fits t u es z p = record {
  beats = whole_starts σ fits t u es p z;
  values = whole_values σ fits t u es p z;
  saves = whole_saves σ fits t u es p z;
  lasts = p.lasts;
  beats_so_far = laid_beats σ fits t u es p;
  values_so_far = cut_values σ fits t u es p;
  saves_so_far = cut_saves σ fits t u es p;
  save_after_beat = save_follows σ fits t u es p;
  uncrossed = no_crossing σ fits t u es p;
}

takes_up : (s : List ℕ) (b : Block) → Fits (settings_of s) → OfForm Equalised b
    → Runnable s Laid (bytes (linearise (layout (settings_of s) b))) (layout (settings_of s) b)
    → (ins v : List ℕ) (o : Outputs) (image spare : List ℕ) (stop : ℕ) (ys : List ℕ)
    → stop_reply (lend s Laid (bytes (linearise (layout (settings_of s) b))) ins v o) image stop ≡ finished ys → length spare ≡ 16
    → TakesUp (lend s Laid (bytes (linearise (layout (settings_of s) b))) ins v o) (total (settings_of s) b) image spare stop
takes_up s b fits p r ins v o image spare stop ys e room =
    let σ = settings_of s in
    let t = total σ b in
    let d = layout σ b in
    let file = bytes (linearise d) in
    let c = lend s Laid file ins v o in
    let a = stop_accepted c image stop ys e in
    let l = good_lengths s Laid file ins v o a.good in
    let placed = placed_laid σ b p fits in
    let early : stop < duration (run σ ins d 0 v) = rw (steps s Laid file d r.tree ins v o) at a.early in
    let again = laid_again σ fits ins d (loop_free σ fits b p) t v stop (laid_whole σ fits b p ins v) (saved_at stop (run σ ins d 0 v) v) refl in
    let tick = tick_taken s d r fits placed ins v o l image a.image_room spare room stop early in
    let does = steps_taken s d r fits placed ins v o l image a.image_room spare room stop early in
    record {
      answers = answered s d r fits placed ins v o l image a.image_room spare room stop early;
      steps = laid_steps σ fits t (image_tick c image stop) (taken_up_steps c image stop) (laid_total_is σ fits b p) (rw (tick, does) again);
    }

lays_out : (s file out xs : List ℕ) → lay_out_reply s file (length out) ≡ finished xs → LaysOut s file out xs
unfolding laid_tree
lays_out s file out xs e =
    let σ = settings_of s in
    let tree = file_tree file in
    let b = layout σ tree in
    let a = lay_out_accepted s file (length out) xs e in
    let r = laid_runnable s file (length out) xs a in
    let p = (sound_file Equalised file a.file_sound).of_form in
    let fits = a.fits_window in
    record {
      answers = sym (ap (λ (n : ℕ). n ∷ laid_total s file ∷ []) (length_file b) ∙ a.answers);
      writes = laid_written s file out xs e;
      file_time_is = timed s Laid (bytes (linearise b)) b r ∙ ap (λ (t : ℕ). finished (t ∷ [])) (time_laid σ tree);
      last_start_is = last_start_is σ tree p fits;
      placed = placed_laid σ tree p fits;
      runs = λ ins v o h. record {
        answers = run_steps s Laid (bytes (linearise b)) b r ins v o h;
        lasts = rw (steps s Laid (bytes (linearise b)) b r.tree ins v o) (laid_lasts σ tree p fits ins v);
      };
      steps = λ ins v o.
          rw (steps s Laid (bytes (linearise b)) b r.tree ins v o)
          (laid_steps σ fits (total σ tree) 0 (run σ ins b 0 v) (laid_total_is σ fits tree p) (laid_whole σ fits tree p ins v));
      taken_up_is = takes_up s tree fits p r;
    }

stops : (c : Loan) (image : List ℕ) (stop : ℕ) → Stops c image stop
unfolding stop_buffers stop_image image_at
stops c image stop =
    let es = steps_of c in
    let ended_steps = upto_ended stop es in
    record {
      done = ended_steps;
      begins = (beyond stop es, upto_beyond stop es);
      longest = λ pre y ys e l h. ap (upto stop) e ∙ upto_only stop pre y ys l h;
      all = upto_all stop es;
      leaves = λ xs e. rw e (ap (λ (ds : List Step). leave ds (cleared c.buffers.variables)) ended_steps);
      saves = λ xs e. rw e (ap (λ (ds : List Step). image_over (last_image ds 0 c.buffers.variables none) image) ended_steps);
    }

pub demand2 : Demand2
demand2 = record {
  equalising = equalises;
  laying_out_is = lays_out;
  no_shorter = λ s file e. total_longer (settings_of s) (file_tree file) (sound_file Equalised file e).of_form;
  stopping = stops;
}
