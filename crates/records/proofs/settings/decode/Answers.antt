-- Settings of another length are bad, and of 12 or 24 bytes the numbers decide.
use Rattle.std.proofs.Common.{◌≡◌, ℕ, Bool, true, false, List, length, Ok, Err, sym, ◌∙◌, arith}
use Rattle.model.specs.declared.{Settings.Settings, Refusal.Refusal}
use Rattle.model.specs.Settings.{settings_of, out_of_range, bad_settings_length, bad_settings}
use Rattle.records.specs.Decoded.{Decodes}
use Rattle.records.proofs.settings.decode.Goals as goal

-- refused where row 6 holds
refused_bad : (s : List ℕ) → bad_settings s ≡ true → Decodes s (Err Refusal.BadSettings)
refused_bad s bad = record { reply = λ next. rw bad; settings = λ σ e. none σ e }
  where
    none : {A : Type 0} (σ : Settings) → Err Refusal.BadSettings ≡ Ok σ → A
    none σ e = let z : ◌≡◌ {A = ℕ} 0 1 = cc in absurd (omega arith)

-- valid where it does not
valid_good : (s : List ℕ) (σ : Settings) → bad_settings s ≡ false → σ ≡ settings_of s → Decodes s (Ok σ)
valid_good s σ good is = record { reply = λ next. rw good; settings = λ τ e. cc }

-- of a length that is taken, the numbers decide
by_numbers : (s : List ℕ) (σ : Settings) {r : Bool} → false ≡ bad_settings_length (length s) → σ ≡ settings_of s → r ≡ out_of_range σ
    → bad_settings s ≡ r
unfolding bad_settings
by_numbers s σ good is r = rw (← good, ← is, ← r)

pub returns-then-bad_length : goal.returns-then-bad_length
unfolding bad_settings
returns-then-bad_length c = refused_bad _ (rw (← c.bad_length.ensures, c.if-bad_length.true))

pub returns-then-out_of_range : goal.returns-then-out_of_range
returns-then-out_of_range c =
    refused_bad _
    (by_numbers _ _ (sym c.if-bad_length.false ∙ c.bad_length.ensures) c.numbers-rack.ensures c.out_of_range.ensures
    ∙ c.if-out_of_range.true)

pub returns : goal.returns
returns c =
    let is = c.numbers-rack.ensures in
    valid_good _ _
    (by_numbers _ _ (sym c.if-bad_length.false ∙ c.bad_length.ensures) is c.out_of_range.ensures
    ∙ c.if-out_of_range.false)
    is
