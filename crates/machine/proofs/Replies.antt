-- From what was read and what a run of it leaves to the replies of the calls.
use Prim.Native.Nat.{ℕ}
use native.Mathlib.Nat.{zero-add}
use mathlib.Core.Path.{◌≡◌, refl, ap, ap₂, sym, subst, ◌∙◌}
use mathlib.Core.Bool.{Bool, false, not, ◌||◌}
use mathlib.Core.List.{List, [], ◌∷◌}
use lib.{Dec.eqb, ListN.length, ListN.replicate}
use Rattle.model.specs.declared.{Form.Form, Settings.Settings, Refusal.Refusal, Ran.Ran, Stopped.Stopped}
use Rattle.model.specs.{Settings.settings_of, Trees.Block, Trees.file_tree}
use Rattle.model.specs.Runs.{Step, duration, leave, cleared, run}
use Rattle.model.specs.Stopping.{upto, none, last_image, image_of, start, take_up}
use Rattle.model.specs.Answers.{Verdict, finished, bit, ran, stopped, kept}
use Rattle.model.specs.Replies.{reading, Loan, bad_lengths, ready_rows, ready, ended, steps_of, run_reply, run_buffers, image_at, stop_reply, stop_buffers, image_over, stop_image, buffers_of, loan}
use Rattle.model.specs.Replies.{stop_rows, taken_up, taken_buffers, resume_reply, resume_buffers, restart_reply, restart_buffers}
use Rattle.laws.proofs.Shapes.{neither}
use Rattle.theory.proofs.{Left.rest_0}
use Rattle.std.specs.Prelude.{Result, Ok, Err}
use Rattle.records.specs.Decoded.{checked}
use Rattle.machine.specs.Calls.{Readies, ReadyToRun, steps, RunWhole, StopsSound, again_rows, Resumes}
use Rattle.machine.proofs.Whole.{equal_of}

-- a call is handed these over
module _ (s : List ℕ) (f : Form) (file v ins l m : List ℕ) where
  abbrev pub c : Loan
  c = loan s f file v ins l m

  -- row 10's cause: a length, or another one
  abbrev Bad : Bool → Bool → Type 0
  Bad cause bad = bad ≡ (bad_lengths (length v) (length ins) (length l) (length m) || cause)

  -- WHAT WAS READ

  module _ (cause : Bool) {bad : Bool} (h : Bad cause bad) where
    replied : {r : Result Settings Refusal} → Readies s f file bad r → (next : Verdict) → checked r next ≡ ready c cause next
    unfolding ready
    replied R next = R.reply next ∙ ap (λ (b : Bool). reading s f file (ready_rows (settings_of s) (file_tree file) b next)) h

    module _ {σ : Settings} (R : Readies s f file bad (Ok σ)) where
      none_bad : (bad_lengths (length v) (length ins) (length l) (length m) ≡ false) × (cause ≡ false)
      none_bad = neither (bad_lengths (length v) (length ins) (length l) (length m)) cause (sym h ∙ R.good σ refl)

      pub is_ready : ReadyToRun file σ v ins l m
      is_ready = record { form = f; sound = R.sound σ refl; in_time = R.in_time σ refl; short = R.short σ refl; lengths = none_bad.0 }

      no_cause : cause ≡ false
      no_cause = none_bad.1

  -- RUN AND RESTART

  module _ {bad : Bool} (h : Bad false bad) where
    pub run_refused : {x : Refusal} → Readies s f file bad (Err x) → (ran (Err x) ≡ run_reply c) × (buffers_of v l m ≡ run_buffers c)
    unfolding run_reply run_buffers
    run_refused {x} R =
        let e = replied false h R (ended 0 (steps_of c)) in
        let new = leave (steps_of c) (cleared v) in
        (e, ap (λ (y : Verdict). kept y new (buffers_of v l m)) e)

    pub restart_refused : {x : Refusal} → Readies s f file bad (Err x) → (ran (Err x) ≡ restart_reply c) × (buffers_of v l m ≡ restart_buffers c)
    unfolding restart_reply restart_buffers
    restart_refused {x} R =
        let e = replied false h R (ended 0 (taken_up c (start v))) in
        let new = taken_buffers c (start v) in
        (e, ap (λ (y : Verdict). kept y new (buffers_of v l m)) e)

    module _ {σ : Settings} (R : Readies s f file bad (Ok σ)) {v' l' m' : List ℕ} {e : Ran} where
      pub run_finished : RunWhole file σ ins v (replicate 8 0) (replicate 8 0) v' l' m' e → (ran (Ok e) ≡ run_reply c) × (buffers_of v' l' m' ≡ run_buffers c)
      unfolding run_reply run_buffers steps_of
      run_finished W =
          let W' = subst (λ (τ : Settings). RunWhole file τ ins v (replicate 8 0) (replicate 8 0) v' l' m' e) (R.settings σ refl) W in
          let es = steps file (settings_of s) ins v in
          let k = replied false h R (ended 0 es) in (
            ap₂ (λ (t : ℕ) (o : Bool). finished (t ∷ bit o ∷ [])) (W'.tick ∙ sym (zero-add (duration es))) W'.overran_too ∙ k,
            W'.leaves ∙ ap (λ (y : Verdict). kept y (leave es (cleared v)) (buffers_of v l m)) k,
          )

      pub restart_finished : RunWhole file σ ins v l m v' l' m' e → (ran (Ok e) ≡ restart_reply c) × (buffers_of v' l' m' ≡ restart_buffers c)
      unfolding restart_reply restart_buffers taken_up taken_buffers take_up
      restart_finished W =
          let W' = subst (λ (τ : Settings). RunWhole file τ ins v l m v' l' m' e) (R.settings σ refl) W in
          let es = steps file (settings_of s) ins v in
          let again = take_up (settings_of s) ins (file_tree file) (start v) in
          let same : es ≡ again = ap (λ (b : Block). run (settings_of s) ins b 0 v) (sym (rest_0 (file_tree file))) in
          let k = replied false h R (ended 0 again) in (
            ap₂ (λ (t : ℕ) (o : Bool). finished (t ∷ bit o ∷ [])) (W'.tick ∙ sym (zero-add (duration es))) W'.overran_too ∙ ap (ended 0) same ∙ k,
            W'.leaves ∙ ap (λ (xs : List Step). leave xs (buffers_of v l m)) same ∙ ap (λ (y : Verdict). kept y (leave again (buffers_of v l m)) (buffers_of v l m)) k,
          )

  -- RUNNING UNTIL A TICK AND TAKING UP

  module _ (image : List ℕ) {bad : Bool} (h : Bad (not (eqb (length image) 72)) bad) where
    abbrev cause : Bool
    cause = not (eqb (length image) 72)

    pub image_lent : {σ : Settings} → Readies s f file bad (Ok σ) → length image ≡ 72
    image_lent R = equal_of (length image) 72 (no_cause cause h R)

    module _ (stop : ℕ) where
      abbrev pub Until : Result Stopped Refusal → List ℕ → List ℕ → List ℕ → List ℕ → Type 0
      Until r v' l' m' image' = (stopped r ≡ stop_reply c image stop) × (buffers_of v' l' m' ≡ stop_buffers c image stop) × (image' ≡ stop_image c image stop)

      pub until_refused : {x : Refusal} → Readies s f file bad (Err x) → Until (Err x) v l m image
      unfolding stop_reply stop_buffers stop_image image_at
      until_refused {x} R =
          let e = replied cause h R (stop_rows (steps_of c) v stop) in
          let new = leave (upto stop (steps_of c)) (cleared v) in
          let saved = image_over (last_image (upto stop (steps_of c)) 0 v none) image in (
            e,
            ap (λ (y : Verdict). kept y new (buffers_of v l m)) e,
            ap (λ (y : Verdict). kept y saved image) e,
          )

      pub until_finished : {σ : Settings} → Readies s f file bad (Ok σ) → {v' l' m' image' : List ℕ} {r : Result Stopped Refusal} → StopsSound file σ ins stop v l m image v' l' m' image' r
          → Until r v' l' m' image'
      unfolding stop_reply stop_buffers stop_image image_at steps_of
      until_finished {σ} R {v'} {l'} {m'} {image'} {r} S =
          let S' = subst (λ (τ : Settings). StopsSound file τ ins stop v l m image v' l' m' image' r) (R.settings σ refl) S in
          let es = steps file (settings_of s) ins v in
          let e = replied cause h R (stop_rows es v stop) in (
            S'.reply ∙ e,
            S'.leaves ∙ ap (λ (y : Verdict). kept y (leave (upto stop es) (cleared v)) (buffers_of v l m)) e,
            S'.saves ∙ ap (λ (y : Verdict). kept y (image_over (last_image (upto stop es) 0 v none) image) image) e,
          )

    abbrev pub From : Result Ran Refusal → List ℕ → List ℕ → List ℕ → Type 0
    From r v' l' m' = (ran r ≡ resume_reply c image) × (buffers_of v' l' m' ≡ resume_buffers c image)

    pub resume_refused : {x : Refusal} → Readies s f file bad (Err x) → From (Err x) v l m
    unfolding resume_reply resume_buffers taken_up
    resume_refused {x} R =
        let e = replied cause h R (again_rows file (settings_of s) ins (image_of image)) in
        let new = taken_buffers c (image_of image) in
        (e, ap (λ (y : Verdict). kept y new (buffers_of v l m)) e)

    pub resume_finished : {σ : Settings} → Readies s f file bad (Ok σ) → {v' l' m' : List ℕ} {r : Result Ran Refusal} → Resumes file σ ins v l m image v' l' m' r → From r v' l' m'
    unfolding resume_reply resume_buffers taken_up taken_buffers
    resume_finished {σ} R {v'} {l'} {m'} {r} S =
        let S' = subst (λ (τ : Settings). Resumes file τ ins v l m image v' l' m' r) (R.settings σ refl) S in
        let e = replied cause h R (again_rows file (settings_of s) ins (image_of image)) in
        let again = take_up (settings_of s) ins (file_tree file) (image_of image) in
        (S'.reply ∙ e, S'.leaves ∙ ap (λ (y : Verdict). kept y (leave again (buffers_of (image_of image).variables l m)) (buffers_of v l m)) e)
