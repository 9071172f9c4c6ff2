-- From the settings and the file that were read and the time of the file's records to the reply of the call.
use Prim.Native.Nat.{ℕ, ◌/◌}
use mathlib.Core.Path.{◌≡◌, refl, ap, ◌∙◌}
use mathlib.Core.{List.List, List.[], List.◌∷◌, Bool.Bool, Bool.true, Bool.false, Bool.cond}
use lib.{ListN.length, Dec.ltb}
use Rattle.model.specs.declared.{Form.Form, Settings.Settings, Refusal.Refusal}
use Rattle.model.specs.{Trees.file_tree, Times.time, Answers.finished, Answers.timed, Replies.turn_down, Replies.time_rows, Replies.time_reply}
use Rattle.laws.proofs.Sound.{sound_file}
use Rattle.std.specs.Option.{ok_or}
use Rattle.std.specs.Prelude.{Option, None, Some, Ok, Err}
use Rattle.reading.specs.Answers.{Reads}
use Rattle.reading.proofs.{Filled.fills_file, Entry.read_sound}
use Rattle.timing.specs.{Times.up_to, Blocks.BlockTimes}

-- the time, or row 8
row_8 : (p t : ℕ) → timed (ok_or (up_to p t) Refusal.OverPeriod) ≡ turn_down 8 (ltb p t) (finished (t ∷ []))
row_8 p t = go (ltb p t)
  where
    go : (o : Bool) → timed (ok_or (cond o None (Some t)) Refusal.OverPeriod) ≡ turn_down 8 o (finished (t ∷ []))
    go true = refl
    go false = refl

module _ (s : List ℕ) (f : Form) (file : List ℕ) where
  pub refused_reply : (x : Refusal) → Reads s f file (Err x) → timed (Err x) ≡ time_reply s f file
  unfolding time_reply
  refused_reply x R = R.reply _

  pub timed_reply : (σ : Settings) (t : Option ℕ) → Reads s f file (Ok σ) → BlockTimes file 0 (length file / 12) 16 σ t
      → timed (ok_or t Refusal.OverPeriod) ≡ time_reply s f file
  unfolding time_reply
  timed_reply σ t R B =
      let fills = fills_file f file (file_tree file) (sound_file f file (read_sound s f file σ R)) in
      ap (λ (x : Option ℕ). timed (ok_or x Refusal.OverPeriod)) (B.right f (file_tree file) fills)
      ∙ row_8 σ.period (time σ (file_tree file))
      ∙ ap (λ (τ : Settings). time_rows τ (file_tree file)) (R.settings σ refl)
      ∙ R.reply _
