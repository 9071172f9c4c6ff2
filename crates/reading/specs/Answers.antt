-- What reading the settings and a file answers.
use Rattle.std.specs.Prelude.{◌≡◌, List, ℕ, Result, Ok}
use Rattle.model.specs.declared.Form.{Form}
use Rattle.model.specs.declared.Refusal.{Refusal}
use Rattle.model.specs.declared.Settings.{Settings}
use Rattle.model.specs.Settings.{settings_of}
use Rattle.model.specs.Answers.{Verdict}
use Rattle.model.specs.Replies.{reading}
use Rattle.records.specs.Decoded.{checked}

-- rows 6 and 1 to 5, and the settings where none refuses
pub record Reads (s : List ℕ) (f : Form) (file : List ℕ) (r : Result Settings Refusal) : Type 0 where
  pub reply : (next : Verdict) → checked r next ≡ reading s f file next
  pub settings : (σ : Settings) → r ≡ Ok σ → σ ≡ settings_of s
