-- What decoding the settings answers.
use Rattle.std.specs.Prelude.{◌≡◌, ℕ, List, Result, Ok, Err}
use Rattle.model.specs.declared.Settings.{Settings}
use Rattle.model.specs.Settings.{settings_of, bad_settings}
use Rattle.model.specs.Answers.{Verdict, refusal}
use Rattle.model.specs.Replies.{turn_down}
use Rattle.model.specs.declared.Refusal.{Refusal}

-- What a check answers in a call that then goes on to answer `next`.
abbrev pub checked : {A : Type 0} → Result A Refusal → Verdict → Verdict
checked (Ok x) next = next
checked (Err x) next = refusal x

-- Row 6 of the table, and the settings where it does not refuse.
pub record Decodes (s : List ℕ) (r : Result Settings Refusal) : Type 0 where
  pub reply : (next : Verdict) → checked r next ≡ turn_down 6 (bad_settings s) next
  pub settings : (σ : Settings) → r ≡ Ok σ → σ ≡ settings_of s
