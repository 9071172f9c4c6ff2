-- DEMAND 2, over bytes and replies: each part under the words that it answers. The proof is in proofs/Demand2.antt.
use Rattle.std.specs.Prelude.{ℕ, ◌+◌, ◌*◌, ◌-◌, ◌%◌, ◌≤◌, ◌<◌, ◌≡◌, true, false, List, [], ◌∷◌, ◌++◌, map, length, drop}
use Rattle.model.specs.Limits.{variable_count}
use Rattle.model.specs.declared.Settings.{Settings}
use Rattle.model.specs.declared.Form.TheVariants.{Task, Equalised, Laid}
use Rattle.model.specs.Records.{bytes}
use Rattle.model.specs.Settings.{settings_of}
use Rattle.model.specs.Trees.{linearise, file_tree}
use Rattle.model.specs.Runs.{Step, is_beat, is_save, starts, duration, overran, leave, cleared}
use Rattle.model.specs.Equalising.{F, merge}
use Rattle.model.specs.Layout.{ceiling, layout}
use Rattle.model.specs.Stopping.{upto, none, last_image}
use Rattle.model.specs.Refusals.{sound, fault}
use Rattle.model.specs.Answers.{finished}
use Rattle.model.specs.Replies.{file_time, time_reply, equalise_reply, equalise_out, laid_total, lay_out_reply, lay_out_out}
use Rattle.model.specs.Replies.{Loan, bad_buffers, ended, steps_of, run_reply, stop_reply, stop_buffers, image_over, stop_image}
use Rattle.model.specs.Placement.{Placed}
use Rattle.model.specs.Timeline.{multiples, beat_list, EndsInBeat, ended_by}
use Rattle.model.specs.Chain.{Outputs, lend, taking_up, taken_up_steps, image_tick}

-- A RUN

-- of a file whose stated time is t
pub record RunsInTime (c : Loan) (t : ℕ) : Type 0 where
  -- it is not refused: "A run answers its end tick .. and whether it overran."
  pub answers : run_reply c ≡ ended 0 (steps_of c)
  -- "its stated time is the time of each of its runs that does not overrun a loop count", "the whole lasts exactly the total stated for it"
  pub lasts : overran (steps_of c) ≡ false → duration (steps_of c) ≡ t

-- EQUALISING

-- the bytes of the tree that 003's rules give, with SKIPs merged. WCET(skip) and a test's time are 1, as in 003; WCET(read) and WCET(write) are READ's and
-- WRITE's ticks; in the place of WCET(x := e), its single assignment time, W-204 has the ticks of a multiply where e is a product, and SET's elsewhere.
abbrev pub equalised_bytes : List ℕ → List ℕ → List ℕ
equalised_bytes s task = bytes (linearise (merge 0 (F (settings_of s) (file_tree task))))

-- for settings s, a task, a lent buffer and an answer xs
pub record Equalises (s task out xs : List ℕ) : Type 0 where
  -- "equalising answers the bytes written and the time"
  pub answers : xs ≡ length (equalised_bytes s task) ∷ file_time s task ∷ []
  -- "The equalised task is the one that the rules of source document 003 give", and the bytes after it are untouched
  pub writes : equalise_out s task out ≡ equalised_bytes s task ++ drop (length (equalised_bytes s task)) out
  -- the stated time is that of the task and of the file
  pub task_time : time_reply s Task task ≡ finished (file_time s task ∷ [])
  pub file_time_is : time_reply s Equalised (equalised_bytes s task) ≡ finished (file_time s task ∷ [])
  -- and of its runs, from any variables and inputs, with anything in the outputs
  pub runs : (ins v : List ℕ) (o : Outputs) → bad_buffers (lend s Equalised (equalised_bytes s task) ins v o) ≡ false
      → RunsInTime (lend s Equalised (equalised_bytes s task) ins v o) (file_time s task)

-- LAYING OUT

-- the steps of a run of a laid file whose total is t, begun at tick u: 0, or the tick of the image from which it was taken up
pub record LaidSteps (σ : Settings) (t u : ℕ) (es : List Step) : Type 0 where
  -- "a heartbeat starts at every multiple of the window and at no other tick, on every such run": from 0, they are 0, H, 2H, …, total − B
  pub beats : overran es ≡ false → starts is_beat u es ≡ multiples σ.window u (t - σ.beat) ++ (t - σ.beat) ∷ []
  -- "BEAT (value 1)"; "one last BEAT .. with value ceil((P − total) / H)"
  pub values : overran es ≡ false
      → beat_list u es ≡ map (λ x. (x, 1)) (multiples σ.window u (t - σ.beat)) ++ (t - σ.beat, ceiling (σ.period - t) σ.window) ∷ []
  -- "a SAVE directly after it if that multiple is also one of K × H"; at the last BEAT "never a SAVE"
  pub saves : overran es ≡ false → starts is_save u es ≡ map (λ x. σ.beat + x) (multiples (σ.spacing * σ.window) u (t - σ.beat))
  -- "the whole lasts exactly the total stated for it"
  pub lasts : overran es ≡ false → u + duration es ≡ t
  -- a run that overruns, up to its end tick; the BEATs of any run
  pub beats_so_far : starts is_beat u es ≡ multiples σ.window u (u + duration es)
  pub values_so_far : overran es ≡ true → beat_list u es ≡ map (λ x. (x, 1)) (multiples σ.window u (u + duration es))
  pub saves_so_far : overran es ≡ true → starts is_save u es ≡ map (λ x. σ.beat + x) (multiples (σ.spacing * σ.window) u (u + duration es))
  -- a SAVE starts at the end of its BEAT
  pub save_after_beat : (pre : List Step) (e : Step) (post : List Step) → es ≡ pre ++ e ∷ post → is_save e.does ≡ true → EndsInBeat pre
  -- "A step longer than the ticks left to the next multiple of H waits": no step crosses one
  pub uncrossed : (pre : List Step) (e : Step) (post : List Step) → es ≡ pre ++ e ∷ post → (u + duration pre) % σ.window + e.lasts ≤ σ.window

-- a run c that was stopped, and is taken up from the image that the stop wrote or, with no finished SAVE, from the start
pub record TakesUp (c : Loan) (t : ℕ) (image spare : List ℕ) (stop : ℕ) : Type 0 where
  -- it is not refused: "A run answers its end tick .. and whether it overran."
  pub answers : taking_up c image spare stop ≡ ended (image_tick c image stop) (taken_up_steps c image stop)
  -- "one taken up begins with its image's index, tick and variables": BEATs and SAVEs are those from that tick on, and it ends at the total
  pub steps : LaidSteps (settings_of c.settings) t (image_tick c image stop) (taken_up_steps c image stop)

abbrev pub laid_bytes : List ℕ → List ℕ → List ℕ
laid_bytes s file = bytes (linearise (layout (settings_of s) (file_tree file)))

-- for settings s, any equalised file, a lent buffer and an answer xs
pub record LaysOut (s file out xs : List ℕ) : Type 0 where
  -- "equalising answers .., laying out the bytes written and the total"
  pub answers : xs ≡ length (laid_bytes s file) ∷ laid_total s file ∷ []
  pub writes : lay_out_out s file out ≡ laid_bytes s file ++ drop (length (laid_bytes s file)) out
  -- what was written is a laid file whose time is the total
  pub file_time_is : time_reply s Laid (laid_bytes s file) ≡ finished (laid_total s file ∷ [])
  -- the last BEAT starts at a multiple of H
  pub last_start_is : (laid_total s file - (settings_of s).beat) % (settings_of s).window ≡ 0
  -- on every path each record is in place, and both sides of an IF end at one tick
  pub placed : Placed (settings_of s) (layout (settings_of s) (file_tree file)) 0
  -- each run, from any variables and inputs, with anything in the outputs
  pub runs : (ins v : List ℕ) (o : Outputs) → bad_buffers (lend s Laid (laid_bytes s file) ins v o) ≡ false
      → RunsInTime (lend s Laid (laid_bytes s file) ins v o) (laid_total s file)
  pub steps : (ins v : List ℕ) (o : Outputs) → LaidSteps (settings_of s) (laid_total s file) 0 (steps_of (lend s Laid (laid_bytes s file) ins v o))
  -- stopped at any tick before its end, with anything in the image buffer, and taken up, with any 16 numbers as lent variables
  pub taken_up_is : (ins v : List ℕ) (o : Outputs) (image spare : List ℕ) (stop : ℕ) (ys : List ℕ)
      → stop_reply (lend s Laid (laid_bytes s file) ins v o) image stop ≡ finished ys → length spare ≡ variable_count
      → TakesUp (lend s Laid (laid_bytes s file) ins v o) (laid_total s file) image spare stop

-- STOPPING

-- "A run stopped at a tick has done the steps that end by then and no others": for anything lent, at any tick
pub record Stops (c : Loan) (image : List ℕ) (stop : ℕ) : Type 0 where
  -- the steps done are those of which each one's end is at or before the stop
  pub done : upto stop (steps_of c) ≡ ended_by stop 0 (steps_of c)
  -- they are the longest such beginning of the run
  pub begins : (left : List Step) × (steps_of c ≡ upto stop (steps_of c) ++ left)
  pub longest : (pre : List Step) (y : Step) (ys : List Step) → steps_of c ≡ pre ++ y ∷ ys → duration pre ≤ stop → stop < duration pre + y.lasts
      → upto stop (steps_of c) ≡ pre
  pub all : duration (steps_of c) ≤ stop → upto stop (steps_of c) ≡ steps_of c
  -- "The lent variables and outputs then show the state after the last step done", and the image is that of the last SAVE among them
  pub leaves : (xs : List ℕ) → stop_reply c image stop ≡ finished xs
      → stop_buffers c image stop ≡ leave (ended_by stop 0 (steps_of c)) (cleared c.buffers.variables)
  pub saves : (xs : List ℕ) → stop_reply c image stop ≡ finished xs
      → stop_image c image stop ≡ image_over (last_image (ended_by stop 0 (steps_of c)) 0 c.buffers.variables none) image

-- DEMAND 2

pub record Demand2 : Type 0 where
  pub equalising : (s task out xs : List ℕ) → equalise_reply s task (length out) ≡ finished xs → Equalises s task out xs
  pub laying_out_is : (s file out xs : List ℕ) → lay_out_reply s file (length out) ≡ finished xs → LaysOut s file out xs
  -- "the file's time, or the total laid out, above P": the total decides, whatever P is
  pub no_shorter : (s file : List ℕ) → fault Equalised file ≡ sound → file_time s file ≤ laid_total s file
  pub stopping : (c : Loan) (image : List ℕ) (stop : ℕ) → Stops c image stop
