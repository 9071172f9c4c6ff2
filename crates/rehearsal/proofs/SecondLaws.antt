-- From what the stopped run answers to the prepared form's part of the rehearsal.
use Prim.Native.Nat.{ℕ}
use mathlib.Core.Path.{◌≡◌, ap, ap₂, sym, subst, ◌∙◌}
use mathlib.Core.Bool.{Bool, true, false, cond}
use mathlib.Core.List.{List, [], ◌∷◌}
use lib.{Dec.eqb, ListN.replicate}
use Rattle.std.specs.Prelude.{Result, Ok}
use Rattle.model.specs.declared.Form.TheVariants.{Laid}
use Rattle.model.specs.declared.{Refusal.Refusal, Stopped.Stopped}
use Rattle.model.specs.{Runs.Buffers, Stopping.image_of}
use Rattle.model.specs.Answers.{Verdict, finished, bit, stopped, and_then, value_at}
use Rattle.model.specs.Replies.{stop_reply, stop_buffers, stop_image, resume_reply, resume_buffers, restart_reply, restart_buffers, buffers_of}
use Rattle.model.specs.Chain.{Outputs, lend, End}
use Rattle.model.specs.Rehearsal.{taken_of, stopped_of}
use Rattle.rehearsal.specs.Promises.{laid_loan}

module _ (first : End) (total : ℕ) (s file ins : List ℕ) {v two : List ℕ} (copied : v ≡ two) (image spare : List ℕ) (stop : ℕ) where
  abbrev Until : List ℕ → Result Stopped Refusal → Buffers → List ℕ → Type 0
  Until w r b i =
      let c = laid_loan s file w ins in
      (stopped r ≡ stop_reply c image stop) × (b ≡ stop_buffers c image stop) × (i ≡ stop_image c image stop)

  abbrev left : Buffers → Outputs
  left b = record { levels = b.levels; marks = b.marks }

  -- what is told of a stop that answered up, and left these buffers and this image
  abbrev told : Verdict → Buffers → List ℕ → Verdict
  told up b i =
      let saved = eqb (value_at 2 up) 1 in
      let c = lend s Laid file ins spare (left b) in
      let d = lend s Laid file ins two (left b) in
      and_then up
      (taken_of first total (laid_loan s file two ins) stop saved
      (cond saved (image_of i).tick 0)
      (cond saved (resume_reply c i) (restart_reply d))
      (cond saved (resume_buffers c i) (restart_buffers d)))

  module _ (x : Stopped) {v' l' m' i : List ℕ} (u : Until v (Ok x) (buffers_of v' l' m') i) where
    answer : told (stopped (Ok x)) (buffers_of v' l' m') i ≡ stopped_of first total (laid_loan s file two ins) image spare stop
    answer =
        let (e, k, m) = subst (λ (w : List ℕ). Until w (Ok x) (buffers_of v' l' m') i) copied u in
        ap (λ (y : Verdict). told y (buffers_of v' l' m') i) e ∙ ap₂ (told (stop_reply (laid_loan s file two ins) image stop)) k m

    answers : {o : Bool} → x.saved ≡ o → told (finished (x.tick ∷ 0 ∷ bit o ∷ [])) (buffers_of v' l' m') i
        ≡ stopped_of first total (laid_loan s file two ins) image spare stop
    answers y = ap (λ (o : Bool). told (finished (x.tick ∷ 0 ∷ bit o ∷ [])) (buffers_of v' l' m') i) (sym y) ∙ answer

    pub stop_saved : {reply : Verdict} → x.saved ≡ true
        → (let c = lend s Laid file ins spare (record { levels = l'; marks = m' }) in
        reply ≡ taken_of first total c stop true (image_of i).tick (resume_reply c i) (resume_buffers c i))
        → reply ≡ stopped_of first total (laid_loan s file two ins) image spare stop
    stop_saved y e = e ∙ answers y

    pub stop_unsaved : {reply : Verdict} → x.saved ≡ false
        → (let c = lend s Laid file ins two (record { levels = l'; marks = m' }) in
        reply ≡ taken_of first total c stop false 0 (restart_reply c) (restart_buffers c))
        → reply ≡ stopped_of first total (laid_loan s file two ins) image spare stop
    stop_unsaved y e = e ∙ answers y
