-- What equalising and laying out wrote is read back: the tree that the rules give, of its form, with the time that was stated.
use Prim.Native.Nat.{ℕ, ◌*◌}
use native.Mathlib.Omega.{arith}
use mathlib.Core.{Path.◌≡◌, Path.refl, List.List, List.[], List.◌∷◌}
use lib.{ListN.length, ListN.take, ListN.drop, Seq.take-append_seam}
use Rattle.model.specs.declared.Form.TheVariants.{Task, Equalised, Laid}
use Rattle.model.specs.{Records.bytes, Records.over, Settings.settings_of}
use Rattle.model.specs.Trees.{Block, size, linearise, file_tree}
use Rattle.model.specs.Answers.{Verdict, finished, kept, value_at}
use Rattle.model.specs.Replies.{file_time, equalised_tree, equalise_reply, equalise_out, laid_tree, laid_total, lay_out_reply, lay_out_out}
use Rattle.model.specs.Standing.{OfForm}
use Rattle.laws.proofs.{Sound.Sound, Sound.sound_file, Passes.passes, Passes.tree_back, Passes.length_file}
use Rattle.theory.proofs.{Times.time_equalise, Forms.equalised_of_form, Forms.depth_equalise}
use Rattle.theory.proofs.Laid.{time_laid, laid_of_form, depth_laid}
use Rattle.theory.proofs.Accepted.{EqualiseAccepted, equalise_accepted, LayOutAccepted, lay_out_accepted, Runnable}

-- the bytes of a block
abbrev pub file_of : Block → List ℕ
file_of b = bytes (linearise b)

-- what an answer says was written, of a result b in a lent buffer
file_in : (r : Verdict) (b : Block) (out xs : List ℕ) (t : ℕ) → r ≡ finished xs → 12 * size b ∷ t ∷ [] ≡ xs
    → take (value_at 0 r) (kept r (over (file_of b) out) out) ≡ file_of b
file_in r b out xs t e a = rw (e, ← a, ← length_file b) (take-append_seam (file_of b) (drop (length (file_of b)) out))

-- EQUALISED

module _ (s task : List ℕ) (room : ℕ) (xs : List ℕ) (a : EqualiseAccepted s task room xs) where
  task_tree : Sound Task task (file_tree task)
  task_tree = sound_file Task task a.file_sound

  pub equalised_form : OfForm Equalised (equalised_tree s task)
  unfolding equalised_tree
  equalised_form = equalised_of_form (settings_of s) (file_tree task) task_tree.of_form (omega (arith, a.in_time, a.in_range.short))

  pub task_runnable : Runnable s Task task (file_tree task)
  task_runnable = record { settings_good = a.settings_good; file_sound = a.file_sound; tree = refl; in_time = a.in_time }

  pub equalised_runnable : Runnable s Equalised (file_of (equalised_tree s task)) (equalised_tree s task)
  unfolding equalised_tree
  equalised_runnable = record {
    settings_good = a.settings_good;
    file_sound =
        passes Equalised (equalised_tree s task) equalised_form
        (omega (arith, depth_equalise (settings_of s) (file_tree task), task_tree.shallow)) a.has_room.few;
    tree = tree_back (equalised_tree s task);
    in_time = omega (arith, time_equalise (settings_of s) (file_tree task), a.in_time);
  }

pub equalised_written : (s task out xs : List ℕ) → equalise_reply s task (length out) ≡ finished xs
    → equalise_out s task out ≡ over (file_of (equalised_tree s task)) out
unfolding equalise_out
equalised_written s task out xs e = rw e

pub equalised_file_is : (s task out xs : List ℕ) → equalise_reply s task (length out) ≡ finished xs
    → take (value_at 0 (equalise_reply s task (length out))) (equalise_out s task out) ≡ file_of (equalised_tree s task)
unfolding equalise_out
equalised_file_is s task out xs e = file_in _ (equalised_tree s task) out xs (file_time s task) e (equalise_accepted s task (length out) xs e).answers

-- LAID

module _ (s file : List ℕ) (room : ℕ) (xs : List ℕ) (a : LayOutAccepted s file room xs) where
  file_tree_is : Sound Equalised file (file_tree file)
  file_tree_is = sound_file Equalised file a.file_sound

  pub laid_runnable : Runnable s Laid (file_of (laid_tree s file)) (laid_tree s file)
  unfolding laid_tree
  laid_runnable =
      let σ = settings_of s in
      let b = file_tree file in
      record {
        settings_good = a.settings_good;
        file_sound =
            passes Laid (laid_tree s file)
            (laid_of_form σ b file_tree_is.of_form a.in_range.positive.window_lasts a.in_range.short (omega (arith, a.in_time, a.in_range.short)))
            (omega (arith, depth_laid σ b file_tree_is.of_form, file_tree_is.shallow)) a.has_room.few;
        tree = tree_back (laid_tree s file);
        in_time = omega (arith, time_laid σ b, a.in_time);
      }

pub laid_written : (s file out xs : List ℕ) → lay_out_reply s file (length out) ≡ finished xs
    → lay_out_out s file out ≡ over (file_of (laid_tree s file)) out
unfolding lay_out_out
laid_written s file out xs e = rw e

pub laid_file_is : (s file out xs : List ℕ) → lay_out_reply s file (length out) ≡ finished xs
    → take (value_at 0 (lay_out_reply s file (length out))) (lay_out_out s file out) ≡ file_of (laid_tree s file)
unfolding lay_out_out
laid_file_is s file out xs e = file_in _ (laid_tree s file) out xs (laid_total s file) e (lay_out_accepted s file (length out) xs e).answers
