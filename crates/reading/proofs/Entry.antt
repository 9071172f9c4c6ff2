-- The settings are judged first and then the file; where both were read, the settings are good and the file is sound.
use Prim.Native.Nat.{ℕ}
use native.Mathlib.Omega.{arith}
use mathlib.Core.Path.{◌≡◌, refl, sym, ◌∙◌}
use mathlib.Core.{Bool.Bool, Bool.true, Bool.false, List.List, List.[]}
use Rattle.model.specs.declared.{Form.Form, Settings.Settings, Refusal.Refusal}
use Rattle.model.specs.{Settings.bad_settings, Answers.Verdict, Answers.finished}
use Rattle.model.specs.Refusals.{Fault, sound, faulty, fault}
use Rattle.model.specs.Replies.{turn_down, unless, reading}
use Rattle.std.specs.Prelude.{Result, Ok, Err}
use Rattle.records.specs.Decoded.{checked, Decodes}
use Rattle.reading.specs.{Scanning.Scans, Answers.Reads}

-- what is refused was not read
pub none : {A : Type 0} (x : Refusal) (σ : Settings) → Err x ≡ Ok σ → A
none x σ e = let z : ◌≡◌ {A = ℕ} 0 1 = cc in absurd (omega arith)

module _ (s : List ℕ) (f : Form) (file : List ℕ) where
  -- the settings are refused, whatever the file
  pub settings_refused : (x : Refusal) → Decodes s (Err x) → Reads s f file (Err x)
  unfolding reading
  settings_refused x D = record { reply = λ next. D.reply (unless (fault f file) next); settings = λ σ e. none x σ e }

  module _ (σ : Settings) (D : Decodes s (Ok σ)) where
    then_scanned : (q : Result (Unit {0}) Refusal) → Scans f file q → (next : Verdict) → checked q next ≡ reading s f file next
    unfolding reading
    then_scanned q S next = S.reply next ∙ D.reply (unless (fault f file) next)

    pub file_refused : (x : Refusal) → Scans f file (Err x) → Reads s f file (Err x)
    file_refused x S = record { reply = then_scanned (Err x) S; settings = λ τ e. none x τ e }

    pub both_read : Scans f file (Ok tt) → Reads s f file (Ok σ)
    both_read S = record { reply = then_scanned (Ok tt) S; settings = λ τ e. sym (same e) ∙ D.settings σ refl }
      where
        same : {τ : Settings} → ◌≡◌ {A = Result Settings Refusal} (Ok σ) (Ok τ) → σ ≡ τ
        same e = cc

  -- nothing refused it
  read_good : (σ : Settings) → Reads s f file (Ok σ) → (bad_settings s ≡ false) × (fault f file ≡ sound)
  unfolding reading
  read_good σ R = go (bad_settings s) refl (fault f file) refl (R.reply (finished []))
    where
      go : (a : Bool) → bad_settings s ≡ a → (x : Fault) → fault f file ≡ x → finished [] ≡ turn_down 6 a (unless x (finished []))
          → (bad_settings s ≡ false) × (fault f file ≡ sound)
      go true h x k e = let z : ◌≡◌ {A = ℕ} 0 1 = cc in absurd (omega arith)
      go false h sound k e = (h, k)
      go false h (faulty n y) k e = let z : ◌≡◌ {A = ℕ} 0 1 = cc in absurd (omega arith)

  pub read_settings : (σ : Settings) → Reads s f file (Ok σ) → bad_settings s ≡ false
  read_settings σ R = (read_good σ R).0

  pub read_sound : (σ : Settings) → Reads s f file (Ok σ) → fault f file ≡ sound
  read_sound σ R = (read_good σ R).1
