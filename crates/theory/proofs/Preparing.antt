-- Preparing a task in one call answers and writes what equalising it into a lent buffer and laying out what that wrote do.
use Prim.Native.Nat.{ℕ, ◌*◌}
use native.Mathlib.Omega.{arith}
use mathlib.Core.Path.{◌≡◌, refl, ap, sym, ◌∙◌}
use mathlib.Core.{Bool.Bool, Bool.true, Bool.false, List.List, List.[], List.◌∷◌}
use lib.ListN.{length}
use borrow.Author.Tests.{le-ltb}
use Rattle.model.specs.declared.Form.TheVariants.{Task}
use Rattle.model.specs.{Settings.settings_of, Settings.bad_settings, Trees.size, Limits.file_records, Limits.file_length}
use Rattle.model.specs.Refusals.{Fault, sound, faulty, fault}
use Rattle.model.specs.Answers.{Verdict, finished, refused, and_then}
use Rattle.model.specs.Replies.{turn_down, unless, reading, above, no_room, file_time, equalised_tree, equalise_reply, lay_out_reply, lay_out_out, equalised_of, prepare_reply, prepare_out}
use Rattle.model.specs.Chain.{Chain, equalising, equalised_file, laying_out}
use Rattle.theory.proofs.{Accepted.reads, Accepted.equalise_accepted, Files.equalised_file_is}

-- a result that has room has room in the longest file
full_room : (s task : List ℕ) (room : ℕ) (xs : List ℕ) → equalise_reply s task room ≡ finished xs → equalise_reply s task file_length ≡ finished xs
unfolding equalise_reply equalised_tree
full_room s task room xs e =
    let a = equalise_accepted s task room xs e in
    let n = size (equalised_tree s task) in
    let few = a.has_room.few in
    reads s Task task _ a.settings_good a.file_sound
    ∙ rw (le-ltb (settings_of s).period (file_time s task) a.in_time, le-ltb file_length (12 * n) (omega arith), le-ltb file_records n few) (ap finished a.answers)

-- and a refusal by another row than 9 comes before any room is asked for
refused_first : (s task : List ℕ) (room n : ℕ) (xs : List ℕ) → equalise_reply s task room ≡ refused n xs → (n ≡ 9 → ⊥) → equalise_reply s task file_length ≡ refused n xs
unfolding equalise_reply equalised_tree reading
refused_first s task room n xs e h =
    go (bad_settings s) (fault Task task) (above (settings_of s) (file_time s task)) (no_room room m) (no_room file_length m) e
  where
    m : ℕ
    m = size (equalised_tree s task)

    rows : Bool → Fault → Bool → Bool → Verdict
    rows a f b r = turn_down 6 a (unless f (turn_down 8 b (turn_down 9 r (finished (12 * m ∷ file_time s task ∷ [])))))

    go : (a : Bool) (f : Fault) (b r q : Bool) → rows a f b r ≡ refused n xs → rows a f b q ≡ refused n xs
    go true f b r q p = p
    go false (faulty i x) b r q p = p
    go false sound true r q p = p
    go false sound false true q p = absurd (h (let z : 9 ≡ n = cc in sym z))
    go false sound false false q p = let z : ◌≡◌ {A = ℕ} 0 1 = cc in absurd (omega arith)

module _ (k : Chain) where
  abbrev s : List ℕ
  s = k.settings

  -- what laying out would answer to the file that equalising gives
  abbrev laying : Verdict
  laying = lay_out_reply s (equalised_of s k.task) (length k.laid_room)

  file_is : (xs : List ℕ) → equalising k ≡ finished xs → equalised_file k ≡ equalised_of s k.task
  file_is xs e = equalised_file_is s k.task k.equalised_room xs e

  -- where equalising finished
  pub prepares_reply : (xs : List ℕ) → equalising k ≡ finished xs → prepare_reply s k.task (length k.laid_room) ≡ laying_out k
  unfolding prepare_reply
  prepares_reply xs e =
      ap (λ (v : Verdict). and_then v laying) (full_room s k.task (length k.equalised_room) xs e)
      ∙ ap (λ (f : List ℕ). lay_out_reply s f (length k.laid_room)) (sym (file_is xs e))

  pub prepares_out : (xs : List ℕ) → equalising k ≡ finished xs → prepare_out s k.task k.laid_room ≡ lay_out_out s (equalised_file k) k.laid_room
  unfolding prepare_reply prepare_out lay_out_out
  prepares_out xs e = rw (file_is xs e, full_room s k.task (length k.equalised_room) xs e)

  pub prepares_refused : (n : ℕ) (xs : List ℕ) → equalising k ≡ refused n xs → (n ≡ 9 → ⊥) → prepare_reply s k.task (length k.laid_room) ≡ refused n xs
  unfolding prepare_reply
  prepares_refused n xs e h = ap (λ (v : Verdict). and_then v laying) (refused_first s k.task (length k.equalised_room) n xs e h)

  -- with room for the longest file, refused or not
  pub prepares_both : length k.equalised_room ≡ file_length → prepare_reply s k.task (length k.laid_room) ≡ and_then (equalising k) (laying_out k)
  unfolding prepare_reply
  prepares_both h = go (equalising k) refl
    where
      go : (v : Verdict) → equalising k ≡ v → prepare_reply s k.task (length k.laid_room) ≡ and_then v (laying_out k)
      go (finished xs) e = prepares_reply xs e
      go (refused n xs) e = ap (λ (m : ℕ). and_then (equalise_reply s k.task m) laying) (sym h) ∙ ap (λ (v : Verdict). and_then v laying) e
