-- From the two calls that prepare a task to what preparing it answers.
use Prim.Native.Nat.{ℕ, ◌*◌, ◌≤◌}
use native.Mathlib.Omega.{arith}
use mathlib.Core.Path.{◌≡◌, refl, ap, sym, ◌∙◌}
use mathlib.Core.{Bool.Bool, Bool.true, Bool.false, List.List, List.[], List.◌∷◌}
use lib.ListN.{length, get_or, take}
use borrow.Author.Tests.{le-ltb}
use Rattle.model.specs.declared.Refusal.{Refusal}
use Rattle.model.specs.declared.Form.TheVariants.{Task}
use Rattle.model.specs.{Settings.settings_of, Settings.bad_settings, Trees.size, Trees.file_tree, Limits.file_length}
use Rattle.model.specs.Refusals.{Fault, sound, faulty, fault}
use Rattle.model.specs.Answers.{Verdict, finished, refusal, value_at}
use Rattle.model.specs.Replies.{reading, equalised_tree, equalise_reply, equalise_out, lay_out_reply, lay_out_out, equalised_of, prepare_reply, prepare_out}
use Rattle.laws.proofs.Sound.{sound_file}
use Rattle.theory.proofs.{Accepted.equalise_accepted, Files.equalised_file_is}
use Rattle.equaliser.proofs.Merged.{equalise_padded, padded_small}
use Rattle.preparation.proofs.Chaining.{refused_first}

-- ROOM

-- a task becomes at most 1,025 records
few_records : (s task : List ℕ) → fault Task task ≡ sound → size (equalised_tree s task) ≤ 1025
unfolding equalised_tree
few_records s task e =
    let σ = settings_of s in
    omega (arith, ap size (equalise_padded σ (file_tree task)), padded_small σ (file_tree task) 0 0, (sound_file Task task e).few)

-- so equalising answers alike in all rooms for that many
pub room_enough : (s task : List ℕ) (m : ℕ) → 12300 ≤ m → equalise_reply s task m ≡ equalise_reply s task file_length
unfolding equalise_reply equalised_tree reading
room_enough s task m h = go (bad_settings s) refl (fault Task task) refl
  where
    go : (x : Bool) → bad_settings s ≡ x → (y : Fault) → fault Task task ≡ y → equalise_reply s task m ≡ equalise_reply s task file_length
    go true e y f = rw e
    go false e (faulty n x) f = rw (e, f)
    go false e sound f =
        let n = size (equalised_tree s task) in
        let few = few_records s task f in
        rw (e, f, le-ltb m (12 * n) (omega arith), le-ltb file_length (12 * n) (omega arith))

-- what was written fits its buffer
pub prepare_fits : (s task : List ℕ) (m : ℕ) {n t k : ℕ} → finished (n ∷ t ∷ []) ≡ equalise_reply s task m → k ≡ m → n ≤ k
prepare_fits s task m {n} {t} e h =
    let A = equalise_accepted s task m (n ∷ t ∷ []) (sym e) in
    omega (arith, h, ap (λ (xs : List ℕ). get_or xs 0 0) A.answers, A.has_room.fits_buffer)

-- THE CALL

-- what preparing a task answers and leaves
abbrev pub Prepares : List ℕ → List ℕ → List ℕ → List ℕ → Verdict → Type 0
Prepares s task out out' v = (v ≡ prepare_reply s task (length out)) × (out' ≡ prepare_out s task out)

module _ (s task out : List ℕ) where
  -- with a buffer of its own that has room for 1,025 records
  pub prepare_refused : {m : ℕ} (x : Refusal) → refusal x ≡ equalise_reply s task m → 12300 ≤ m → Prepares s task out out (refusal x)
  unfolding prepare_reply prepare_out
  prepare_refused {m} x e h =
      let k = refused_first x (lay_out_reply s (equalised_of s task) (length out)) (e ∙ room_enough s task m h) in
      (k, rw (← k))

  module _ (own : List ℕ) {own' : List ℕ} {n t : ℕ} (e : finished (n ∷ t ∷ []) ≡ equalise_reply s task (length own)) (w : own' ≡ equalise_out s task own) where
    written : take n own' ≡ equalised_of s task
    written =
        ap (take n) w ∙ ap (λ (v : Verdict). take (value_at 0 v) (equalise_out s task own)) e
        ∙ equalised_file_is s task own (n ∷ t ∷ []) (sym e)

    pub prepare_laid : {v : Verdict} {out' : List ℕ} → v ≡ lay_out_reply s (take n own') (length out) → out' ≡ lay_out_out s (take n own') out
        → 12300 ≤ length own → Prepares s task out out' v
    unfolding prepare_reply prepare_out lay_out_out
    prepare_laid p q h =
        let k = sym (e ∙ room_enough s task (length own) h) in
        (p ∙ rw (written, k), q ∙ rw (written, k))
