-- The pass that finds whether a task surely writes: the bits of the blocks from a record on, and what the record before them makes of these.
use Prim.Native.Nat.{ℕ, zero, suc, ◌+◌, ◌*◌, ◌-◌, ◌/◌, ◌%◌, ◌^◌, ◌≤◌, ◌<◌}
use native.Mathlib.{Nat.add-zero, Nat.zero-add, Omega.arith, Nat.two-pow-succ}
use mathlib.Core.Path.{◌≡◌, refl, ap, sym, ◌∙◌}
use mathlib.Core.Bool.{Bool, true, false, ◌&&◌, ◌||◌}
use mathlib.Core.{List.List, List.[], List.◌∷◌, Logic.◌⊎◌, Logic.inl, Logic.inr}
use borrow.Author.Tests.{eqb-true, eqb-false}
use lib.{Dec.eqb, ListN.length, Pow.pow_mono}
use Rattle.model.specs.declared.Form.{Form}
use Rattle.model.specs.declared.Form.TheVariants.{Task}
use Rattle.model.specs.Records.{Rec, kind_at, record_at, first_records, records, SKIP, SET, READ, WRITE, IF, ELSE, WHILE, END}
use Rattle.model.specs.Trees.{Block, top, under, push, stack_of, tree_of, file_tree}
use Rattle.model.specs.Refusals.{max_depth, kind_fits, Open, first, second, loop, nest, inside, sound, scan, fault}
use Rattle.model.specs.{Answers.bit, Levels.surely_writes}
use Rattle.laws.proofs.{Bytes.records_at, Bytes.records_at_suc, Bytes.records_at_is, Trees.push_act}
use Rattle.laws.proofs.Shapes.{within, Shape, is_skip, is_act, is_if, is_while, is_times, is_else, is_end, shape}
use Rattle.laws.proofs.Sound.{nest_act, passed, whole, sound_kind}
use Rattle.levels.specs.Flags.{flags}

-- WHAT A RECORD MAKES OF THE BITS

top_bit : (bs : List Block) → bit (surely_writes (top bs)) ≡ flags bs % 2
unfolding flags
top_bit [] = refl
top_bit (b ∷ bs) = go (surely_writes b)
  where
    go : (o : Bool) → bit o ≡ (bit o + 2 * flags bs) % 2
    go true = omega arith
    go false = omega arith

under_bits : (bs : List Block) → flags (under bs) ≡ flags bs / 2
unfolding flags
under_bits [] = refl
under_bits (b ∷ bs) = go (surely_writes b)
  where
    go : (o : Bool) → flags bs ≡ (bit o + 2 * flags bs) / 2
    go true = omega arith
    go false = omega arith

-- the bits of an IF's sides and of what follows it
quarter : (n : ℕ) → n / 2 / 2 ≡ n / 4
quarter n = omega arith

eighth : (n : ℕ) → n / 4 / 2 ≡ n / 8
eighth n = omega arith

both : (a d b : Bool) (n : ℕ) → n % 4 ≡ 3 → bit a ≡ n % 2 → bit d ≡ n / 2 % 2 → n / 8 * 2 + 1 ≡ bit ((a && d) || b) + 2 * (n / 8)
both true true b n h p q = omega arith
both true false b n h p q = absurd (omega (arith, quarter n))
both false d b n h p q = absurd (omega arith)

not_both : (a d b : Bool) (n : ℕ) → (n % 4 ≡ 3 → ⊥) → bit a ≡ n % 2 → bit d ≡ n / 2 % 2 → bit b ≡ n / 4 % 2 → n / 4 ≡ bit ((a && d) || b) + 2 * (n / 8)
not_both true true b n h p q r = absurd (omega (arith, quarter n, h))
not_both true false b n h p q r = omega (arith, eighth n)
not_both false d b n h p q r = omega (arith, eighth n)

below : (k n : ℕ) → k ≤ suc n → (k ≡ suc n → ⊥) → k ≤ n
below k n l h = omega arith

third : (k : ℕ) → 1 ≤ k → k ≤ 3 → (k ≡ 1 → ⊥) → (k ≡ 2 → ⊥) → k ≡ 3
third k l h a b = omega arith

-- a record x of kind k comes before blocks whose bits are n
module _ {n k : ℕ} (x : Rec) (bs : List Block) (is : x.kind ≡ k) (known : n ≡ flags bs) where
  first_bit : bit (surely_writes (top bs)) ≡ n % 2
  first_bit = rw known (top_bit bs)

  second_bit : bit (surely_writes (top (under bs))) ≡ n / 2 % 2
  second_bit = rw known (top_bit (under bs) ∙ ap (λ (m : ℕ). m % 2) (under_bits bs))

  after_one : flags (under bs) ≡ n / 2
  after_one = rw known (under_bits bs)

  after_two : flags (under (under bs)) ≡ n / 4
  after_two = under_bits (under bs) ∙ ap (λ (m : ℕ). m / 2) after_one ∙ quarter n

  after_three : flags (under (under (under bs))) ≡ n / 8
  after_three = under_bits (under (under bs)) ∙ ap (λ (m : ℕ). m / 2) after_two ∙ eighth n

  pub write_before : k ≡ WRITE → n / 2 * 2 + 1 ≡ flags (push x bs)
  unfolding flags
  write_before e = rw (is ∙ e) (omega (arith, after_one))

  pub both_before : k ≡ IF → n % 4 ≡ 3 → n / 8 * 2 + 1 ≡ flags (push x bs)
  unfolding flags
  both_before e h =
      rw (is ∙ e, after_three) (both (surely_writes (top bs)) (surely_writes (top (under bs))) (surely_writes (top (under (under bs)))) n h first_bit second_bit)

  pub not_both_before : k ≡ IF → (n % 4 ≡ 3 → ⊥) → n / 4 ≡ flags (push x bs)
  unfolding flags
  not_both_before e h =
      rw (is ∙ e, after_three)
      (not_both (surely_writes (top bs)) (surely_writes (top (under bs))) (surely_writes (top (under (under bs)))) n h first_bit second_bit
      (top_bit (under (under bs)) ∙ ap (λ (m : ℕ). m % 2) after_two))

  pub while_before : k ≡ WHILE → n / 2 ≡ flags (push x bs)
  unfolding flags
  while_before e = rw (is ∙ e) (omega (arith, second_bit, after_two, quarter n))

  pub closer_before : (k ≡ ELSE) ⊎ (k ≡ END) → 2 * n ≡ flags (push x bs)
  unfolding flags
  closer_before (inl e) = rw (is ∙ e, known) (omega arith)
  closer_before (inr e) = rw (is ∙ e, known) (omega arith)

  plain_before : (k ≡ SKIP) ⊎ (k ≡ SET) ⊎ (k ≡ READ) → n ≡ flags (push x bs)
  unfolding flags
  plain_before (inl e) = rw (is ∙ e) (omega (arith, first_bit, after_one))
  plain_before (inr (inl e)) = rw (is ∙ e) (omega (arith, first_bit, after_one))
  plain_before (inr (inr e)) = rw (is ∙ e) (omega (arith, first_bit, after_one))

  -- of a task's kinds SKIP, SET and READ are left
  pub other_before : kind_fits Task k ≡ true → (k ≡ WRITE → ⊥) → (k ≡ IF → ⊥) → (k ≡ WHILE → ⊥) → ((k ≡ ELSE) ⊎ (k ≡ END) → ⊥) → n ≡ flags (push x bs)
  other_before f w i l c = plain_before (go (eqb k 1) refl (eqb k 2) refl)
    where
      go : (a : Bool) → eqb k 1 ≡ a → (b : Bool) → eqb k 2 ≡ b → (k ≡ SKIP) ⊎ (k ≡ SET) ⊎ (k ≡ READ)
      go true p b q = inl (eqb-true k 1 p)
      go false p true q = inr (inl (eqb-true k 2 q))
      go false p false q =
          let m = within 1 8 k f in
          let h = below k 3 (below k 4 (below k 5 (below k 6 (below k 7 m.1 (λ e. c (inr e))) l) (λ e. c (inl e))) i) w in
          inr (inr (third k m.0 h (eqb-false k 1 p) (eqb-false k 2 q)))

-- AT MOST 17 BITS

one_bit : (o : Bool) → bit o ≤ 1
one_bit true = omega arith
one_bit false = omega arith

bits_below : (bs : List Block) → flags bs < 2 ^ length bs
unfolding flags
bits_below [] = omega arith
bits_below (b ∷ bs) = omega (arith, one_bit (surely_writes b), bits_below bs, two-pow-succ (length bs))

-- the blocks that are met after an open one: after its ELSE, and after its END
abbrev awaited : List Open → ℕ
awaited [] = 0
awaited (first ∷ os) = 2 + awaited os
awaited (second ∷ os) = 1 + awaited os
awaited (loop ∷ os) = 1 + awaited os

awaited_few : (os : List Open) → awaited os ≤ 2 * length os
awaited_few [] = omega arith
awaited_few (first ∷ os) = omega (arith, awaited_few os)
awaited_few (second ∷ os) = omega (arith, awaited_few os)
awaited_few (loop ∷ os) = omega (arith, awaited_few os)

length_under : (bs : List Block) → length (under bs) ≡ length bs - 1
length_under [] = refl
length_under (b ∷ bs) = omega arith

opened : (os next : List Open) → inside os ≡ inside next → awaited next ≡ awaited os
opened os next e = let q : next ≡ os = cc in ap awaited q

-- an ELSE, and an END
else_height : (os next : List Open) (bs : List Block) → nest ELSE os ≡ inside next → length bs ≡ 1 + awaited next → suc (length bs) ≡ 1 + awaited os
else_height [] next bs e h = let z : ◌≡◌ {A = ℕ} 0 1 = cc in absurd (omega arith)
else_height (first ∷ os) next bs e h = omega (arith, opened (second ∷ os) next e)
else_height (second ∷ os) next bs e h = let z : ◌≡◌ {A = ℕ} 0 1 = cc in absurd (omega arith)
else_height (loop ∷ os) next bs e h = let z : ◌≡◌ {A = ℕ} 0 1 = cc in absurd (omega arith)

end_height : (os next : List Open) (bs : List Block) → nest END os ≡ inside next → length bs ≡ 1 + awaited next → suc (length bs) ≡ 1 + awaited os
end_height [] next bs e h = let z : ◌≡◌ {A = ℕ} 0 1 = cc in absurd (omega arith)
end_height (first ∷ os) next bs e h = let z : ◌≡◌ {A = ℕ} 0 1 = cc in absurd (omega arith)
end_height (second ∷ os) next bs e h = omega (arith, opened os next e)
end_height (loop ∷ os) next bs e h = omega (arith, opened os next e)

turn_height : (r : Rec) → Shape r → (os next : List Open) (bs : List Block) → nest r.kind os ≡ inside next → length bs ≡ 1 + awaited next
    → length (push r bs) ≡ 1 + awaited os
turn_height r (is_skip n) os next bs e h = omega (arith, length_under bs, opened os next e)
turn_height r (is_act a) os next bs e h = rw (push_act a bs) (omega (arith, length_under bs, opened os next (sym (nest_act a os) ∙ e)))
turn_height r (is_if q) os next bs e h =
    omega (arith, length_under bs, length_under (under bs), length_under (under (under bs)), opened (first ∷ os) next e)
turn_height r (is_while q n) os next bs e h = omega (arith, length_under bs, length_under (under bs), opened (loop ∷ os) next e)
turn_height r (is_times q n) os next bs e h = omega (arith, length_under bs, length_under (under bs), opened (loop ∷ os) next e)
turn_height r is_else os next bs e h = else_height os next bs e h
turn_height r is_end os next bs e h = end_height os next bs e h

-- records that pass the scan inside the open blocks
height : (f : Form) (i : ℕ) (os : List Open) (rs : List Rec) → scan f i os rs ≡ sound → length (stack_of rs) ≡ 1 + awaited os
unfolding scan stack_of
height f i [] [] e = refl
height f i (o ∷ os) [] e = let z : ◌≡◌ {A = ℕ} 0 1 = cc in absurd (omega arith)
height f i os (r ∷ rs) e =
    let p = passed f i os r rs e in
    turn_height r (shape f r p.fit) os p.next (stack_of rs) p.nests (height f (i + 1) p.next rs p.after)

-- n records from index i on pass the scan, and so do the last of them
heights : (f : Form) (s : List ℕ) (n i j : ℕ) (os : List Open) → length os ≤ max_depth f → scan f j os (records_at s i n) ≡ sound
    → (k : ℕ) → k ≤ n → length (stack_of (records_at s (i + k) (n - k))) ≤ 1 + 2 * max_depth f
heights f s n i j os d e zero l =
    let m : n - 0 ≡ n = omega arith in
    rw (add-zero i, m) (omega (arith, height f j os (records_at s i n) e, awaited_few os))
heights f s zero i j os d e (suc k) l = absurd (omega arith)
heights f s (suc n) i j os d e (suc k) l =
    let p = passed f j os (record_at s i) (records_at s (i + 1) n) (ap (scan f j os) (sym (records_at_suc s i n)) ∙ e) in
    let m : i + suc k ≡ i + 1 + k = omega arith in
    let d : suc n - suc k ≡ n - k = omega arith in
    rw (m, d) (heights f s n (i + 1) (j + 1) p.next p.small p.after k (omega arith))

-- THE PASS

-- at the record with index i, of n
pub record Sure (s : List ℕ) (n i known : ℕ) : Type 0 where
  pub passes : fault Task s ≡ sound
  pub count : n ≡ length s / 12
  pub low : i ≤ n
  pub is : known ≡ flags (stack_of (records_at s i (n - i)))

pub sure_start : (s : List ℕ) → fault Task s ≡ sound → Sure s (length s / 12) (length s / 12) 0
unfolding stack_of flags first_records
sure_start s e =
    let d : length s / 12 - length s / 12 ≡ 0 = omega arith in
    record { passes = e; count = refl; low = omega arith; is = rw d refl }

module _ {s : List ℕ} {n i known : ℕ} (S : Sure s n i known) where
  pub sure_small : known < 131072
  sure_small =
      let e = ap (scan Task 0 []) (sym (records_at_is s)) ∙ (whole Task s S.passes).scanned in
      let h = heights Task s (length s / 12) 0 0 [] (omega arith) e i (omega (arith, S.low, S.count)) in
      let m : length (stack_of (records_at s i (n - i))) ≤ 17 = rw S.count (rw (zero-add i) at h) in
      omega (arith, S.is, bits_below (stack_of (records_at s i (n - i))), pow_mono m)

  pub sure_inside : (j : ℕ) → j + 1 ≡ i → 12 * j + 12 ≤ length s
  sure_inside j e = omega (arith, S.low, S.count)

  pub sure_kind : (j : ℕ) → j + 1 ≡ i → kind_fits Task (kind_at s j) ≡ true
  sure_kind j e = sound_kind Task s S.passes j (omega (arith, S.low, S.count))

  pub sure_next : (j r : ℕ) → j + 1 ≡ i → ((x : Rec) (bs : List Block) → x.kind ≡ kind_at s j → known ≡ flags bs → r ≡ flags (push x bs)) → Sure s n j r
  unfolding stack_of
  sure_next j r e h =
      let d : n - j ≡ suc (n - i) = omega (arith, S.low) in
      let g : j + 1 ≡ i = e in
      record {
        passes = S.passes;
        count = S.count;
        low = omega (arith, S.low);
        is = rw (d, records_at_suc s j (n - i), g) (h (record_at s j) (stack_of (records_at s i (n - i))) refl S.is);
      }

pub sure_end : {s : List ℕ} {n i known : ℕ} → Sure s n i known → i ≡ 0 → eqb (known % 2) 1 ≡ surely_writes (file_tree s)
unfolding file_tree tree_of
sure_end {s} {n} {i} {known} S z =
    let d : n - i ≡ length s / 12 = omega (arith, S.count) in
    let e : flags (stack_of (records_at s i (n - i))) ≡ flags (stack_of (records s)) = rw (d, z) (ap (λ (rs : List Rec). flags (stack_of rs)) (sym (records_at_is s))) in
    let t = top_bit (stack_of (records s)) in
    go (surely_writes (top (stack_of (records s)))) (t ∙ ap (λ (m : ℕ). m % 2) (sym (S.is ∙ e)))
  where
    go : (o : Bool) → bit o ≡ known % 2 → eqb (known % 2) 1 ≡ o
    go true h = rw (← h) refl
    go false h = rw (← h) refl
