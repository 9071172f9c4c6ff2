-- From the settings and the task that were read, the size of the result and what was written, to the reply of the call.
use Prim.Native.Nat.{ℕ, ◌+◌, ◌*◌, ◌/◌, ◌^◌, ◌≤◌, ◌<◌}
use native.Mathlib.Omega.{arith}
use mathlib.Core.Path.{◌≡◌, refl, ap, sym, subst, ◌∙◌}
use mathlib.Core.{Bool.Bool, Bool.true, Bool.false, List.List, List.[], List.◌∷◌}
use lib.{ListN.length, Dec.ltb}
use borrow.Author.Tests.{lt-ltb, le-ltb, ltb-false}
use Rattle.model.specs.declared.{Settings.Settings, Refusal.Refusal, Equalised.Equalised}
use Rattle.model.specs.declared.Form.TheVariants.{Task}
use Rattle.model.specs.{Records.bytes, Records.over, Times.time, Equalising.equalise, Settings.settings_of}
use Rattle.model.specs.Trees.{Block, size, linearise, file_tree}
use Rattle.model.specs.Answers.{Verdict, finished, refusal, equalised, kept as kept_by}
use Rattle.model.specs.Replies.{turn_down, no_room, equalise_rows, equalised_tree, equalise_reply, equalise_out}
use Rattle.laws.proofs.Sound.{sound_file}
use Rattle.records.specs.Blocks.{block_bytes, skip_records}
use Rattle.records.proofs.Blocks.{length_block}
use Rattle.reading.specs.{Answers.Reads, Ranges.SoundFile}
use Rattle.reading.proofs.{Entry.read_sound, Walking.whole_file}
use Rattle.std.specs.Prelude.{Option, None, Some, Result, Ok, Err}
use Rattle.std.specs.Option.{ok_or}
use Rattle.equaliser.specs.declared.measure.Extent.{Extent}
use Rattle.equaliser.specs.declared.write.Written.{Written}
use Rattle.equaliser.specs.{declared.pads.Pad.Pad, Merged.padded, Pads.Kept, Written.BlockFits, Written.BlockWritten, Answers.EqualisesSound}
use Rattle.equaliser.specs.Sizes.{Small, BlockAsks, BlockDone, IsBlock, BlockSize}
use Rattle.equaliser.proofs.Merged.{equalise_padded}

-- what row 8 refuses is above the period

was_none : {A : Type 0} (z : Option A) {x : Refusal} → Err x ≡ ok_or z Refusal.OverPeriod → (z ≡ None) × (x ≡ Refusal.OverPeriod)
was_none None q = (refl, cc)
was_none (Some a) q = let z : ◌≡◌ {A = ℕ} 0 1 = cc in absurd (omega arith)

was_some : {A : Type 0} (z : Option A) {a : A} → Ok a ≡ ok_or z Refusal.OverPeriod → z ≡ Some a
was_some None q = let z : ◌≡◌ {A = ℕ} 0 1 = cc in absurd (omega arith)
was_some (Some b) q = cc

-- A TASK THAT WAS READ

-- at most 256 records
few : (task : List ℕ) → SoundFile Task task → length task / 12 ≤ 256
few task S = let F = sound_file Task task S.sound in omega (arith, F.few, F.whole_records)

pub task_asks : {task : List ℕ} → SoundFile Task task → BlockAsks task 0 (length task / 12)
task_asks S = record { file = whole_file S; few = few _ S }

-- the first row that refuses decides, and a refusal keeps the buffer
turned : (task : List ℕ) (σ : Settings) (old : List ℕ) (x : Refusal) → refusal x ≡ equalise_rows σ (file_tree task) (length old) → EqualisesSound task σ old old (Err x)
turned task σ old x e = record { reply = e; leaves = ap (λ (v : Verdict). kept_by v (over (bytes (linearise (equalise σ (file_tree task)))) old) old) e }

module _ {task : List ℕ} {σ : Settings} {pads kept : List Pad} {r : Option Extent} (S : SoundFile Task task) (B : BlockSize task 0 (length task / 12) σ pads kept r) where
  measured : {z : Option Extent} → r ≡ z → IsBlock task 0 (length task / 12) σ kept (file_tree task) z
  measured e = subst (IsBlock task 0 (length task / 12) σ kept (file_tree task)) e (B.right (whole_file S))

  pub over_period : (old : List ℕ) {x : Refusal} → Err x ≡ ok_or r Refusal.OverPeriod → EqualisesSound task σ old old (Err x)
  over_period old q =
      let w = was_none r q in
      let over : σ.period < time σ (file_tree task) = measured w.0 in
      turned task σ old _ (rw w.1 (simp (lt-ltb σ.period (time σ (file_tree task)) over)))

  module _ {e : Extent} (q : Ok e ≡ ok_or r Refusal.OverPeriod) where
    in_time : (time σ (file_tree task) ≡ e.ticks) × (time σ (file_tree task) ≤ σ.period) × BlockDone task 0 (length task / 12) σ kept (file_tree task) e
    in_time = measured (was_some r q)

    pub small : Small e
    small = in_time.2.small

    module _ {n : ℕ} (c : n ≡ e.records + skip_records (e.wait + 0)) where
      counts : size (equalise σ (file_tree task)) ≡ n
      counts = ap size (equalise_padded σ (file_tree task)) ∙ in_time.2.counts 0 ∙ sym c

      -- what row 9 says decides
      sized : (old : List ℕ) → equalise_rows σ (file_tree task) (length old) ≡ turn_down 9 (no_room (length old) n) (finished (12 * n ∷ e.ticks ∷ []))
      sized old = rw (counts, le-ltb σ.period (time σ (file_tree task)) in_time.1, in_time.0)

      pub lacks_room : (old : List ℕ) → no_room (length old) n ≡ true → EqualisesSound task σ old old (Err Refusal.NoRoom)
      lacks_room old h = turned task σ old Refusal.NoRoom (sym (sized old ∙ rw h))

      -- the result's length is that of its bytes
      length_result : length (block_bytes (padded σ 0 (file_tree task) 0)) ≡ 12 * n
      length_result = length_block (padded σ 0 (file_tree task) 0) ∙ ap (λ (x : ℕ). 12 * x) (ap size (sym (equalise_padded σ (file_tree task))) ∙ counts)

      whole : 0 + size (file_tree task) ≡ length task / 12
      whole = omega (arith, (sound_file Task task S.sound).whole_records)

      module _ (short : e.ticks < 2 ^ 32) (old : List ℕ) (h : no_room (length old) n ≡ false) where
        room : (o : Bool) → ltb (length old) (12 * n) ≡ o → no_room (length old) n ≡ false → 12 * n ≤ length old
        room true e h = let z : ◌≡◌ {A = ℕ} 0 1 = cc in absurd (omega arith)
        room false e h = ltb-false (length old) (12 * n) e

        abbrev fits : BlockFits task 0 (length task / 12) 0 kept old
        fits = record {
          settings = σ;
          file = whole_file S;
          few = few task S;
          kept = subst (λ (j : ℕ). Kept σ task (length task / 12) kept 0 j) whole in_time.2.kept;
          within = omega (arith, in_time);
          room = omega (arith, length_result, room (ltb (length old) (12 * n)) refl h);
        }

        pub has_room : BlockFits task 0 (length task / 12) 0 kept old
        has_room = fits

        pub written : (new : List ℕ) {w : Written} → BlockWritten task 0 (length task / 12) 0 kept old new w → EqualisesSound task σ old new (Ok (record { bytes = w.bytes; time = e.ticks }))
        unfolding block_bytes
        written new {w} W =
            let p = (W.right fits).wrote in
            let reply : finished (w.bytes ∷ e.ticks ∷ []) ≡ equalise_rows σ (file_tree task) (length old) =
            ap (λ (x : ℕ). finished (x ∷ e.ticks ∷ [])) (p.count ∙ length_result) ∙ sym (sized old ∙ rw h) in
            record {
              reply = reply;
              leaves = p.laid ∙ ap (λ (b : Block). over (bytes (linearise b)) old) (sym (equalise_padded σ (file_tree task)))
                  ∙ ap (λ (v : Verdict). kept_by v (over (bytes (linearise (equalise σ (file_tree task)))) old) old) reply;
            }

-- THE CALL

pub sound_task : (s task : List ℕ) (σ : Settings) → Reads s Task task (Ok σ) → SoundFile Task task
sound_task s task σ R = record { sound = read_sound s Task task σ R }

module _ (s task old : List ℕ) where
  -- what it answers, and the buffer afterwards
  abbrev pub Replied : Result Equalised Refusal → List ℕ → Type 0
  Replied r new = (equalised r ≡ equalise_reply s task (length old)) × (new ≡ equalise_out s task old)

  pub read_refused : (x : Refusal) → Reads s Task task (Err x) → Replied (Err x) old
  unfolding equalise_reply equalise_out
  read_refused x R =
      let new = over (bytes (linearise (equalised_tree s task))) old in
      (R.reply _, ap (λ (v : Verdict). kept_by v new old) (R.reply _))

  pub read_equalised : (σ : Settings) (new : List ℕ) (r : Result Equalised Refusal) → Reads s Task task (Ok σ) → EqualisesSound task σ old new r → Replied r new
  unfolding equalise_reply equalise_out equalised_tree
  read_equalised σ new r R E =
      let E' = subst (λ (τ : Settings). EqualisesSound task τ old new r) (R.settings σ refl) E in
      let next = equalise_rows (settings_of s) (file_tree task) (length old) in
      let result = over (bytes (linearise (equalise (settings_of s) (file_tree task)))) old in
      (E'.reply ∙ R.reply next, E'.leaves ∙ ap (λ (v : Verdict). kept_by v result old) (R.reply next))
