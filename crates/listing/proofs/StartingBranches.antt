-- The starts of an IF: its own, those of both sides, of ELSE and of END.
use Prim.Native.Nat.{ℕ, ◌+◌, ◌≤◌, ◌<◌, max}
use native.Mathlib.Omega.{arith}
use mathlib.Core.Path.{◌≡◌, refl, ap, ◌∙◌}
use mathlib.Core.List.{List, [], ◌∷◌, ◌++◌, append_assoc}
use lib.ListN.{length, length-append, length-set, set as set_at}
use lib.Seq.{sets, length-sets}
use Rattle.model.specs.declared.Form.TheVariants.{Laid}
use Rattle.model.specs.declared.Settings.{Settings}
use Rattle.model.specs.{Records.kind_at, Records.record_at, Records.IF, Trees.Block, Trees.branch, Trees.size}
use Rattle.model.specs.{Limits.most_ticks, Times.time, Listing.start_ticks}
use Rattle.reading.specs.{Closing.opens_block, Walks.IfAt}
use Rattle.reading.specs.Ranges.{InFile, first_part, second_part, after_first, test_of}
use Rattle.reading.proofs.Walking.{block, first_in_is, if_at, second_in}
use Rattle.listing.specs.declared.starts.Place.{Place}
use Rattle.listing.specs.Starts.{first_starts, Stored, Entered, Statement, BlockStarted, StatementStarted}
use Rattle.records.proofs.Stores.{stored_on}
use Rattle.listing.proofs.{Starting.starts_length, StartingBlocks.place, StartingBlocks.told}

module _ {s : List ℕ} {i to : ℕ} {σ : Settings} {t : ℕ} {out : List ℕ} (S : Statement s i to σ t out) (k : kind_at s i ≡ IF) where
  abbrev one : Block
  one = first_part (block S.here)

  abbrev two : Block
  two = second_part (block S.here)

  abbrev sides : IfAt Laid s i to (block S.here)
  sides = if_at S.here k

  -- both sides end in time
  pub sides_early : t + 1 + max (time σ one) (time σ two) ≤ most_ticks
  sides_early = omega (arith, ap (time σ) sides.is, S.early)

  pub one_entered : Entered s (i + 1) to σ (t + 1) (set_at out i t)
  one_entered = record { file = first_in_is S.here (ap opens_block k); room = omega (arith, S.room, length-set out i t); early = omega (arith, sides_early) }

  module _ {w : List ℕ} {e : Place} (O : BlockStarted s (i + 1) to σ (t + 1) (set_at out i t) w e) where
    first : Stored (start_ticks σ one (t + 1)) (time σ one) (size one) (i + 1) (t + 1) (set_at out i t) w e
    first = O.right one sides.first

    same_room : length w ≡ length out
    same_room = ap length first.table ∙ length-sets (set_at out i t) (i + 1) (start_ticks σ one (t + 1)) ∙ length-set out i t

    pub middle_after : i < e.next
    middle_after = omega (arith, first.next)

    pub middle_inside : e.next + 1 < to
    middle_inside = omega (arith, first.next, sides.ends)

    pub middle_room : e.next < length w
    middle_room = omega (arith, middle_inside, same_room, S.room)

    abbrev two_in : InFile Laid s (e.next + 1) to
    two_in = second_in S.here k first.next

    -- the table once ELSE is stored
    module _ {u : List ℕ} (kept : length u ≡ length w) where
      pub two_entered : Entered s (e.next + 1) to σ (t + 1) u
      two_entered = record { file = two_in; room = omega (arith, S.room, same_room, kept); early = omega (arith, sides_early) }

      module _ {v : List ℕ} {f : Place} (T : BlockStarted s (e.next + 1) to σ (t + 1) u v f) where
        second : Stored (start_ticks σ two (t + 1)) (time σ two) (size two) (e.next + 1) (t + 1) u v f
        second = T.right two two_in.stands

        pub last_inside : f.next < to
        last_inside = omega (arith, first.next, second.next, sides.ends)

        pub last_kept : length v ≡ length out
        last_kept = ap length second.table ∙ length-sets u (e.next + 1) (start_ticks σ two (t + 1)) ∙ kept ∙ same_room

        pub last_room : f.next < length v
        last_room = omega (arith, last_inside, last_kept, S.room)

        module _ (stored : u ≡ set_at w e.next (t + 1)) {end : ℕ} (m : end ≡ max e.tick f.tick) where
          meets : end ≡ t + 1 + max (time σ one) (time σ two)
          meets = omega (arith, m, first.tick, second.tick)

          all_stored : set_at v f.next end ≡ sets out i (first_starts σ (branch (test_of (record_at s i)) one two (after_first (block S.here))) t)
          all_stored =
              let a = starts_length σ one (t + 1) sides.first.fills.of_form in
              let d = starts_length σ two (t + 1) sides.second.fills.of_form in
              let A = t ∷ start_ticks σ one (t + 1) in
              let B = A ++ (t + 1) ∷ [] in
              let D = start_ticks σ two (t + 1) in
              let p1 = stored_on out i (t ∷ []) (start_ticks σ one (t + 1)) refl refl first.table in
              let p2 = stored_on out i A ((t + 1) ∷ []) {j = e.next} p1 (omega (arith, a, first.next)) stored in
              let p3 = stored_on out i B D p2 (simp length-append (omega (arith, a, first.next))) second.table in
              let p4 = stored_on out i (B ++ D) (end ∷ []) {j = f.next} p3 (simp length-append (omega (arith, a, d, first.next, second.next))) refl in
              let ends : B ++ D ++ end ∷ [] ≡ t ∷ (start_ticks σ one (t + 1) ++ (t + 1) ∷ (D ++ (t + 1 + max (time σ one) (time σ two)) ∷ [])) =
              simp append_assoc (ap (λ (x : ℕ). t ∷ (start_ticks σ one (t + 1) ++ (t + 1) ∷ (D ++ x ∷ []))) meets) in
              p4 ∙ ap (sets out i) ends

          pub branch_started : StatementStarted s i to σ t out (set_at v f.next end) (place end (f.next + 1))
          branch_started =
              told S (branch (test_of (record_at s i)) one two (after_first (block S.here))) sides.is
              (record { table = all_stored; tick = omega (arith, meets); next = omega (arith, first.next, second.next) })
