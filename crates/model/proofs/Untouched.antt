-- What a call leaves as it was: every lent buffer at a refusal, the bytes after a result, and the image buffer where no SAVE is finished.
use Prim.Native.Nat.{ℕ}
use mathlib.Core.{Path.◌≡◌, Path.refl, List.List}
use lib.{ListN.length, ListN.drop, Seq.drop-append_seam}
use Rattle.model.specs.{Stopping.none, Records.over}
use Rattle.model.specs.Answers.{Verdict, finished, refused, kept}
use Rattle.model.specs.Replies.{image_at, equalise_reply, equalise_out, lay_out_reply, lay_out_out, prepare_reply, prepare_out}
use Rattle.model.specs.Replies.{Loan, run_reply, run_buffers, stop_reply, stop_buffers, stop_image, resume_reply, resume_buffers, restart_reply, restart_buffers}

-- AFTER A RESULT

-- "A finished result leaves the bytes after it untouched."
pub after_result : (new old : List ℕ) → drop (length new) (over new old) ≡ drop (length new) old
after_result new old = drop-append_seam new (drop (length new) old)

-- "With no finished SAVE the image buffer is untouched"
pub no_save : (c : Loan) (image : List ℕ) (stop : ℕ) → image_at c stop ≡ none → stop_image c image stop ≡ image
unfolding stop_image
no_save c image stop e = rw e (same (stop_reply c image stop))
  where
    same : (v : Verdict) → kept v image image ≡ image
    same (finished xs) = refl
    same (refused n xs) = refl

-- AT A REFUSAL: "Left as it was" .. "all"

left : {A : Type 0} (new old : A) {v : Verdict} {n : ℕ} {xs : List ℕ} → v ≡ refused n xs → kept v new old ≡ old
left new old e = rw e

module _ {n : ℕ} {xs : List ℕ} where
  pub equalise_left : (s task out : List ℕ) → equalise_reply s task (length out) ≡ refused n xs → equalise_out s task out ≡ out
  unfolding equalise_out
  equalise_left s task out e = left _ out e

  pub lay_out_left : (s file out : List ℕ) → lay_out_reply s file (length out) ≡ refused n xs → lay_out_out s file out ≡ out
  unfolding lay_out_out
  lay_out_left s file out e = left _ out e

  pub prepare_left : (s task out : List ℕ) → prepare_reply s task (length out) ≡ refused n xs → prepare_out s task out ≡ out
  unfolding prepare_out
  prepare_left s task out e = left _ out e

  module _ (c : Loan) where
    pub run_left : run_reply c ≡ refused n xs → run_buffers c ≡ c.buffers
    unfolding run_buffers
    run_left e = left _ c.buffers e

    pub restart_left : restart_reply c ≡ refused n xs → restart_buffers c ≡ c.buffers
    unfolding restart_buffers
    restart_left e = left _ c.buffers e

    module _ (image : List ℕ) where
      pub resume_left : resume_reply c image ≡ refused n xs → resume_buffers c image ≡ c.buffers
      unfolding resume_buffers
      resume_left e = left _ c.buffers e

      pub stop_left : (stop : ℕ) → stop_reply c image stop ≡ refused n xs → (stop_buffers c image stop ≡ c.buffers) × (stop_image c image stop ≡ image)
      unfolding stop_buffers stop_image
      stop_left stop e = (left _ c.buffers e, left _ image e)
