-- What the calls of the machine answer and leave, with a file and settings that were read.
use Rattle.std.specs.Prelude.{ℕ, ◌≤◌, ◌≡◌, Bool, true, false, List, length, Result, Ok, Err}
use Rattle.model.specs.Limits.{most_ticks}
use Rattle.model.specs.declared.Form.{Form}
use Rattle.model.specs.declared.Settings.{Settings}
use Rattle.model.specs.declared.Stopped.{Stopped}
use Rattle.model.specs.declared.Ran.{Ran}
use Rattle.model.specs.Settings.{settings_of}
use Rattle.model.specs.Trees.{file_tree}
use Rattle.model.specs.Times.{time}
use Rattle.model.specs.Runs.{Step, duration, overran, leave, cleared, run}
use Rattle.model.specs.Stopping.{upto, Image, image_of, take_up}
use Rattle.model.specs.Answers.{Verdict, stopped, ran, kept}
use Rattle.model.specs.Replies.{reading, bad_lengths, ready_rows, buffers_of, saved_at, stop_rows, image_over, resume_rows}
use Rattle.model.specs.declared.Refusal.{Refusal}
use Rattle.records.specs.Decoded.{checked}
use Rattle.reading.specs.Ranges.{SoundFile}
use Rattle.stepping.specs.declared.progress.Place.{Place}
use Rattle.stepping.specs.declared.progress.Halt.{Halt}
use Rattle.stepping.specs.declared.progress.Halt.TheVariants.{Cut, Overran}

-- rows 6, 1 to 5, 8 and 10, and the settings where none refuses
pub record Readies (s : List ℕ) (f : Form) (file : List ℕ) (bad : Bool) (r : Result Settings Refusal) : Type 0 where
  pub reply : (next : Verdict) → checked r next ≡ reading s f file (ready_rows (settings_of s) (file_tree file) bad next)
  pub settings : (σ : Settings) → r ≡ Ok σ → σ ≡ settings_of s
  pub sound : (σ : Settings) → r ≡ Ok σ → SoundFile f file
  pub in_time : (σ : Settings) → r ≡ Ok σ → time σ (file_tree file) ≤ σ.period
  pub short : (σ : Settings) → r ≡ Ok σ → σ.period ≤ most_ticks
  pub good : (σ : Settings) → r ≡ Ok σ → bad ≡ false

-- a file and settings that were read, and buffers of the table's lengths
pub record ReadyToRun (file : List ℕ) (σ : Settings) (v ins l m : List ℕ) : Type 0 where
  pub form : Form
  pub sound : SoundFile form file
  pub in_time : time σ (file_tree file) ≤ σ.period
  pub short : σ.period ≤ most_ticks
  pub lengths : bad_lengths (length v) (length ins) (length l) (length m) ≡ false

-- the steps of a whole run
abbrev pub steps : List ℕ → Settings → List ℕ → List ℕ → List Step
steps file σ ins v = run σ ins (file_tree file) 0 v

-- what a run answers that goes on to its end
abbrev pub told : Result Place Halt → Ran
told (Ok p) = record { tick = p.tick; overran = false }
told (Err (Cut t)) = record { tick = t; overran = false }
told (Err (Overran t)) = record { tick = t; overran = true }

-- whether a run was cut by its limit
abbrev pub was_cut : Result Place Halt → Bool
was_cut (Ok p) = false
was_cut (Err (Cut t)) = true
was_cut (Err (Overran t)) = false

-- a whole run from the lent variables and outputs on
pub record RunWhole (file : List ℕ) (σ : Settings) (ins v l m v' l' m' : List ℕ) (e : Ran) : Type 0 where
  pub tick : e.tick ≡ duration (steps file σ ins v)
  pub overran_too : e.overran ≡ overran (steps file σ ins v)
  pub leaves : buffers_of v' l' m' ≡ leave (steps file σ ins v) (buffers_of v l m)

-- a run up to a stop tick: row 12, and the result
pub record StopsSound (file : List ℕ) (σ : Settings) (ins : List ℕ) (stop : ℕ) (v l m image v' l' m' image' : List ℕ) (r : Result Stopped Refusal) : Type 0 where
  pub reply : stopped r ≡ stop_rows (steps file σ ins v) v stop
  pub leaves : buffers_of v' l' m' ≡ kept (stop_rows (steps file σ ins v) v stop) (leave (upto stop (steps file σ ins v)) (cleared v)) (buffers_of v l m)
  pub saves : image' ≡ kept (stop_rows (steps file σ ins v) v stop) (image_over (saved_at stop (steps file σ ins v) v) image) image

-- the steps of a run taken up: row 11, and the result
abbrev pub again : List ℕ → Settings → List ℕ → Image → List Step
again file σ ins m = take_up σ ins (file_tree file) m

abbrev pub again_rows : List ℕ → Settings → List ℕ → Image → Verdict
again_rows file σ ins m = resume_rows σ file m (again file σ ins m)

pub record Resumes (file : List ℕ) (σ : Settings) (ins v l m image v' l' m' : List ℕ) (r : Result Ran Refusal) : Type 0 where
  pub reply : ran r ≡ again_rows file σ ins (image_of image)
  pub leaves : buffers_of v' l' m'
      ≡ kept (again_rows file σ ins (image_of image)) (leave (again file σ ins (image_of image)) (buffers_of (image_of image).variables l m)) (buffers_of v l m)
