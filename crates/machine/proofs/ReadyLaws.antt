-- From the settings and the file that were read and the time of the file's records to what every run tries first.
use Prim.Native.Nat.{ℕ, ◌/◌, ◌≤◌}
use native.Mathlib.Omega.{arith}
use mathlib.Core.Path.{◌≡◌, refl, sym, subst, ◌∙◌}
use mathlib.Core.{Bool.Bool, Bool.true, Bool.false, List.List}
use lib.ListN.{length}
use borrow.Author.Tests.{lt-ltb, le-ltb}
use Rattle.model.specs.declared.{Form.Form, Settings.Settings, Refusal.Refusal}
use Rattle.model.specs.{Settings.settings_of, Trees.file_tree, Times.time, Answers.Verdict, Answers.refusal}
use Rattle.model.specs.Replies.{reading, above, file_time, ready_rows}
use Rattle.laws.proofs.Sound.{sound_file}
use Rattle.theory.proofs.Accepted.{in_range}
use Rattle.std.specs.Prelude.{Option, None, Some, Ok, Err}
use Rattle.reading.specs.Answers.{Reads}
use Rattle.reading.proofs.{Filled.fills_file, Entry.none, Entry.read_sound, Entry.read_settings}
use Rattle.timing.specs.{Times.Gives, Blocks.BlockTimes}
use Rattle.timing.proofs.Given.{was_over, was_ticks}
use Rattle.machine.specs.Calls.{Readies}

module _ (s : List ℕ) (f : Form) (file : List ℕ) (bad : Bool) where
  abbrev rows : Verdict → Verdict
  rows next = ready_rows (settings_of s) (file_tree file) bad next

  refused : (x : Refusal) → ((next : Verdict) → refusal x ≡ reading s f file (rows next)) → Readies s f file bad (Err x)
  refused x e = record {
    reply = e;
    settings = λ σ k. none x σ k;
    sound = λ σ k. none x σ k;
    in_time = λ σ k. none x σ k;
    short = λ σ k. none x σ k;
    good = λ σ k. none x σ k;
  }

  -- rows 6 and 1 to 5
  pub not_read : (x : Refusal) → Reads s f file (Err x) → Readies s f file bad (Err x)
  not_read x R = refused x (λ next. R.reply (rows next))

  module _ (σ : Settings) (R : Reads s f file (Ok σ)) where
    is : σ ≡ settings_of s
    is = R.settings σ refl

    gives : {t : Option ℕ} → BlockTimes file 0 (length file / 12) 16 σ t → Gives (settings_of s).period (file_time s file) t
    gives {t} B =
        let fills = fills_file f file (file_tree file) (sound_file f file (read_sound s f file σ R)) in
        subst (λ (τ : Settings). Gives τ.period (time τ (file_tree file)) t) is (B.right f (file_tree file) fills)

    pub over_period : BlockTimes file 0 (length file / 12) 16 σ None → Readies s f file bad (Err Refusal.OverPeriod)
    over_period B =
        refused Refusal.OverPeriod
        (λ next. sym (rw (lt-ltb (settings_of s).period (file_time s file) (was_over (settings_of s).period (file_time s file) (gives B)))) ∙ R.reply (rows next))

    module _ {x : ℕ} (B : BlockTimes file 0 (length file / 12) 16 σ (Some x)) where
      in_time : file_time s file ≤ (settings_of s).period
      in_time = omega (arith, was_ticks (settings_of s).period (file_time s file) x (gives B))

      -- row 8
      on_time : above (settings_of s) (file_time s file) ≡ false
      on_time = le-ltb (settings_of s).period (file_time s file) in_time

      pub bad_lengths_is : bad ≡ true → Readies s f file bad (Err Refusal.BadBuffers)
      bad_lengths_is h = refused Refusal.BadBuffers (λ next. sym (rw (on_time, h)) ∙ R.reply (rows next))

      pub is_ready : bad ≡ false → Readies s f file bad (Ok σ)
      is_ready h = record {
        reply = λ next. sym (rw (on_time, h)) ∙ R.reply (rows next);
        settings = R.settings;
        sound = λ τ k. record { sound = read_sound s f file σ R };
        in_time = λ τ k. subst (λ (ν : Settings). time ν (file_tree file) ≤ ν.period) (sym (R.settings τ k)) in_time;
        short = λ τ k. subst (λ (ν : Settings). ν.period ≤ 1000000) (sym (R.settings τ k)) (in_range s (read_settings s f file σ R)).short;
        good = λ τ k. h;
      }
