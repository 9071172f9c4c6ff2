-- From what preparing a task answers, and the table of starts, to its listing.
use Prim.Native.Nat.{ℕ, ◌*◌, ◌/◌}
use native.Mathlib.Omega.{arith}
use mathlib.Core.Path.{◌≡◌, ap, sym, subst, ◌∙◌}
use mathlib.Core.Bool.{false}
use mathlib.Core.List.{List, [], ◌∷◌, append-nil}
use lib.ListN.{length, get_or, drop, length-append, length-drop}
use lib.Seq.{sets}
use Rattle.std.specs.Prelude.{Result, Ok, Err}
use Rattle.model.specs.declared.Form.TheVariants.{Laid}
use Rattle.model.specs.declared.{Refusal.Refusal, LaidOut.LaidOut, Settings.Settings}
use Rattle.model.specs.{Settings.settings_of, Settings.bad_settings, Times.time, Records.over, Limits.file_length}
use Rattle.model.specs.{Trees.Block, Trees.size, Trees.linearise, Answers.finished, Answers.refusal, Answers.laid_out}
use Rattle.model.specs.{Listing.start_ticks, Listing.laid_from, Listing.list_starts, Standing.At, Standing.OfForm}
use Rattle.model.specs.Replies.{equalise_reply, laid_total, lay_out_reply, equalised_of, prepare_reply, prepare_out}
use Rattle.laws.proofs.{Bytes.records_at, Bytes.first_bytes, Trees.length_linearise, Passes.length_file, Stands.begins}
use Rattle.laws.proofs.{Sound.sound_file}
use Rattle.records.specs.Decoded.{Decodes}
use Rattle.records.proofs.Stores.{stored_over}
use Rattle.reading.specs.Ranges.{Stands}
use Rattle.reading.proofs.Standing.{standing_at}
use Rattle.theory.proofs.{Accepted.LayOutAccepted, Accepted.lay_out_accepted, Accepted.Runnable, Files.file_of, Files.laid_runnable}
use Rattle.preparation.proofs.Chaining.{never_finished, second_done}
use Rattle.listing.specs.declared.starts.Place.{Place}
use Rattle.listing.specs.Starts.{Entered, BlockStarted}
use Rattle.listing.proofs.Starting.{starts_length}

-- settings that are good are not refused
pub decoded_good : {A : Type 0} (s : List ℕ) (x : Refusal) → bad_settings s ≡ false → Decodes s (Err x) → A
decoded_good s x g D = never_finished x [] (D.reply (finished []) ∙ rw g)

-- a refusal leaves the table as it was
pub table_kept : (s task table : List ℕ) (x : Refusal) → refusal x ≡ prepare_reply s task file_length → table ≡ list_starts s task table
unfolding list_starts
table_kept s task table x e = rw (← e)

-- A LAID FILE

module _ (s task : List ℕ) {n t : ℕ} (e : prepare_reply s task file_length ≡ finished (n ∷ t ∷ [])) where
  abbrev pub tree : Block
  tree = laid_from s task

  laid_reply : lay_out_reply s (equalised_of s task) file_length ≡ finished (n ∷ t ∷ [])
  unfolding prepare_reply
  laid_reply = sym (second_done (equalise_reply s task file_length) (lay_out_reply s (equalised_of s task) file_length) (sym e))

  pub accepted : LayOutAccepted s (equalised_of s task) file_length (n ∷ t ∷ [])
  accepted = lay_out_accepted s (equalised_of s task) file_length (n ∷ t ∷ []) laid_reply

  runnable : Runnable s Laid (file_of tree) tree
  runnable = laid_runnable s (equalised_of s task) file_length (n ∷ t ∷ []) accepted

  pub count : n / 12 ≡ size tree
  count =
      let k : 12 * size tree ≡ n = ap (λ (xs : List ℕ). get_or xs 0 0) accepted.answers in
      omega arith

  pub total : laid_total s (equalised_of s task) ≡ t
  total = ap (λ (xs : List ℕ). get_or xs 1 0) accepted.answers

  of_form : OfForm Laid tree
  of_form = subst (OfForm Laid) runnable.tree (sound_file Laid (file_of tree) runnable.file_sound).of_form

  -- each record has its tick
  pub ticks_count : length (start_ticks (settings_of s) tree 0) ≡ size tree
  ticks_count = starts_length (settings_of s) tree 0 of_form

  -- and the table has room for them
  pub table_filled : (table : List ℕ) → length table ≡ 5461 → sets table 0 (start_ticks (settings_of s) tree 0) ≡ list_starts s task table
  unfolding list_starts
  table_filled table k =
      let ts = start_ticks (settings_of s) tree 0 in
      stored_over table ts (omega (arith, k, ticks_count, accepted.has_room.few)) ∙ rw e

  module _ (laid : List ℕ) (h : length laid ≡ 65532) where
    there : prepare_out s task laid ≡ over (file_of tree) laid
    unfolding prepare_out
    there = rw (h, e)

    pub records_there : records_at (prepare_out s task laid) 0 (size tree) ≡ linearise tree
    records_there = rw (there, ← length_linearise tree) (first_bytes (linearise tree) (drop (length (file_of tree)) laid))

    at : At (prepare_out s task laid) 0 tree
    at = (begins (prepare_out s task laid) 0 (size tree) tree [] (records_there ∙ sym (append-nil (linearise tree)))).stands

    tree_stands : Stands Laid (prepare_out s task laid) 0 (n / 12) tree
    tree_stands = standing_at tree at of_form (omega (arith, count)) (λ h. absurd (omega (arith, count)))

    pub laid_length : length (prepare_out s task laid) ≡ 65532
    laid_length =
        let file = file_of tree in
        ap length there ∙ length-append file (drop (length file) laid)
        ∙ omega (arith, h, length-drop (length file) laid, length_file tree, accepted.has_room.few)

-- THE CALL

-- what listing a task answers and leaves
abbrev pub Lists : List ℕ → List ℕ → List ℕ → List ℕ → List ℕ → List ℕ → Result LaidOut Refusal → Type 0
Lists s task laid laid' table table' r =
    (laid_out r ≡ prepare_reply s task file_length) × (laid' ≡ prepare_out s task laid) × (table' ≡ list_starts s task table)

module _ (s task laid laid' : List ℕ) (h : length laid ≡ 65532) where
  -- what preparing it does
  abbrev pub Prepares : Result LaidOut Refusal → Type 0
  Prepares r = (laid_out r ≡ prepare_reply s task (length laid)) × (laid' ≡ prepare_out s task laid)

  answered : (r : Result LaidOut Refusal) → Prepares r → laid_out r ≡ prepare_reply s task file_length
  answered r p = p.0 ∙ ap (prepare_reply s task) h

  pub list_refused : (table : List ℕ) (x : Refusal) → Prepares (Err x) → Lists s task laid laid' table table (Err x)
  list_refused table x p = (answered (Err x) p, p.1, table_kept s task table x (answered (Err x) p))

  module _ (d : LaidOut) (p : Prepares (Ok d)) where
    reply : prepare_reply s task file_length ≡ finished (d.bytes ∷ d.total ∷ [])
    reply = sym (answered (Ok d) p)

    pub list_decoded : {A : Type 0} (x : Refusal) → Decodes s (Err x) → A
    list_decoded x D = decoded_good s x (accepted s task reply).settings_good D

    module _ {σ : Settings} (same : σ ≡ settings_of s) (table : List ℕ) (k : length table ≡ 5461) where
      stands : Stands Laid laid' 0 (d.bytes / 12) (laid_from s task)
      stands = subst (λ (l : List ℕ). Stands Laid l 0 (d.bytes / 12) (laid_from s task)) (sym p.1) (tree_stands s task reply laid h)

      pub list_entered : Entered laid' 0 (d.bytes / 12) σ 0 table
      list_entered =
          let b = laid_from s task in
          let A = accepted s task reply in
          let few = A.has_room.few in
          record {
            file = record { block = b; stands = stands; inside = omega (arith, count s task reply, few, ap length p.1, laid_length s task reply laid h) };
            room = omega (arith, count s task reply, few, k);
            early = omega (arith, ap (λ (τ : Settings). time τ b) same, (runnable s task reply).in_time, A.in_range.short);
          }

      pub list_written : {table' : List ℕ} {e : Place} → BlockStarted laid' 0 (d.bytes / 12) σ 0 table table' e
          → Lists s task laid laid' table table' (Ok d)
      list_written B =
          let b = laid_from s task in
          let stored = (B.right b stands).table ∙ ap (λ (τ : Settings). sets table 0 (start_ticks τ b 0)) same in
          (sym reply, p.1, stored ∙ table_filled s task reply table k)
