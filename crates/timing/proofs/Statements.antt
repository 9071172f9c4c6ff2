-- What a statement's function answers, by the kind of its record and the answers for the blocks inside it.
use Prim.Native.Nat.{ℕ, ◌+◌, ◌-◌, ◌≤◌, ◌<◌, max}
use native.Mathlib.{Omega.arith}
use mathlib.Core.Path.{◌≡◌, refl, ap, sym, subst, ◌∙◌}
use mathlib.Core.{Bool.true, Bool.false, Logic.inl, Logic.inr, List.List}
use Rattle.model.specs.declared.{Form.Form, Settings.Settings}
use Rattle.model.specs.Records.{Rec, kind_at, record_at, IF, WHILE, TIMES}
use Rattle.model.specs.Trees.{Test, Block, nil, skip, act, branch, while, times, size, depth, test_rec}
use Rattle.model.specs.Times.{time}
use Rattle.records.specs.declared.Record.{Record}
use Rattle.records.specs.Records.{record_of}
use Rattle.reading.specs.{Closing.opens_block, Walks.StatementAt}
use Rattle.reading.specs.Ranges.{Stands, InFile, first_size, first_part, second_part}
use Rattle.reading.proofs.FirstKinds.{kind_is, act_opens, shut}
use Rattle.reading.proofs.Walking.{block, some, open_at, first_in_is, if_at, second_in}
use Rattle.std.specs.Prelude.{Option, None, Some}
use Rattle.timing.specs.declared.blocks.Step.{Step}
use Rattle.timing.specs.{Times.Gives, Times.step_ticks, Times.loop_ticks, Blocks.first_time, Blocks.Passes, Blocks.Between, Blocks.StatementTimes, Blocks.SequenceTimes}
use Rattle.timing.proofs.{Given.gives_ticks, Given.was_ticks, Given.was_over, Firsts.loop_count, Firsts.parts_time, Firsts.plain_at}

-- the ticks up to the record at j, where there are any
abbrev pub up_to_next : Option ℕ → ℕ → Option Step
up_to_next None j = None
up_to_next (Some t) j = Some (record { ticks = t; next = j })

passes : (σ : Settings) (t j k : ℕ) (z : Option ℕ) → Gives σ.period t z → j ≡ k → Passes σ t k (up_to_next z j)
passes σ t j k None g e = was_over σ.period t g
passes σ t j k (Some x) g e = let w = was_ticks σ.period t x g in (w.0, omega arith, e)

goes_on : {i to j : ℕ} (z : Option ℕ) → i < j → j ≤ to → Between (i + 1) to (up_to_next z j)
goes_on None l h = tt
goes_on (Some x) l h = (omega arith, h)

-- A RECORD THAT OPENS NO BLOCK

pub plain_times : {s : List ℕ} {i to d : ℕ} {σ : Settings} {r : Record} (t : ℕ) (z : Option ℕ) → i < to → record_of r ≡ record_at s i
    → opens_block r.kind ≡ false → t ≡ step_ticks σ (record_of r) → Gives σ.period t z → StatementTimes s i to d σ (up_to_next z (i + 1))
plain_times {i = i} {σ = σ} t z l same h e g = record {
  inside = goes_on z (omega arith) (omega arith);
  right = λ f A m.
      let p = plain_at A σ same h in
      passes σ (first_time σ A.file.block) (i + 1) (i + first_size A.file.block) z (subst (λ (n : ℕ). Gives σ.period n z) (e ∙ p.0) g) (omega (arith, p.1));
}

-- A RECORD THAT OPENS ONE

-- whatever stands at i takes too long
over_times : {s : List ℕ} {i to d : ℕ} {σ : Settings}
    → ((f : Form) (A : StatementAt f s i to) → depth A.file.block ≤ d → σ.period < first_time σ A.file.block) → StatementTimes s i to d σ None
over_times h = record { inside = tt; right = h }

-- the record r stands at i, and opens a block
pub record Opens (s : List ℕ) (i to : ℕ) (r : Record) : Type 0 where
  pub early : i < to
  pub same : record_of r ≡ record_at s i
  pub opens : opens_block r.kind ≡ true

-- a loop whose record is r
record Loop (σ : Settings) (r : Record) (b : Block) : Type 0 where
  takes : loop_ticks (record_of r) (time σ (first_part b)) ≡ first_time σ b
  some_rounds : 1 ≤ r.count
  records : first_size b ≡ 2 + size (first_part b)

looped : {σ : Settings} {r : Record} {b : Block} (k : ℕ) (q : Test) (n : ℕ) → record_of r ≡ test_rec k q n → 1 ≤ n
    → loop_ticks (test_rec k q n) (time σ (first_part b)) ≡ first_time σ b → first_size b ≡ 2 + size (first_part b) → Loop σ r b
looped {σ} {r} {b} k q n e c t z = record {
  takes = ap (λ (y : Rec). loop_ticks y (time σ (first_part b))) e ∙ t;
  some_rounds = omega (arith, ap (λ (y : Rec). y.count) e);
  records = z;
}

module _ {s : List ℕ} {i to : ℕ} {r : Record} (O : Opens s i to r) where
  opened : opens_block (kind_at s i) ≡ true
  opened = ap opens_block (kind_is s i (sym O.same)) ∙ O.opens

  loop_of : {f : Form} (σ : Settings) (b : Block) → Stands f s i to b → 1 ≤ first_size b → (r.kind ≡ IF → ⊥) → Loop σ r b
  loop_of σ nil B h x = absurd (omega arith)
  loop_of σ (skip n b) B h x = absurd (shut s i B.fills.stands.0 refl opened)
  loop_of σ (act p b) B h x = absurd (shut s i B.fills.stands.0 (act_opens p) opened)
  loop_of σ (branch q a e b) B h x = absurd (x (ap (λ (y : Rec). y.kind) (O.same ∙ B.fills.stands.0.is)))
  loop_of {f} σ (while q n a b) B h x = looped WHILE q n (O.same ∙ B.fills.stands.0.is) (loop_count f WHILE q n (inl refl) B.fills.of_form.0) refl refl
  loop_of {f} σ (times q n a b) B h x = looped TIMES q n (O.same ∙ B.fills.stands.0.is) (loop_count f TIMES q n (inr refl) B.fills.of_form.0) refl refl

module _ {s : List ℕ} {i to d : ℕ} {r : Record} (O : Opens s i to r) where
  shallow : {f : Form} (A : StatementAt f s i to) → depth (block A) ≤ d → depth (first_part (block A)) ≤ d - 1
  shallow A l = omega (arith, (open_at A (opened O)).deeper)

module _ {s : List ℕ} {i to d : ℕ} {σ : Settings} {r : Record} (O : Opens s i to r) where
  pub flat_times : d ≡ 0 → StatementTimes s i to d σ None
  flat_times e = over_times (λ f A l. absurd (omega (arith, (open_at A (opened O)).deeper)))

  pub first_over : SequenceTimes s (i + 1) to (d - 1) σ None → StatementTimes s i to d σ None
  first_over S = over_times (λ f A l.
      let o : σ.period < time σ (first_part (block A)) = S.right f (first_in_is A (opened O)) (shallow O A l) in
      omega (arith, o, (parts_time σ f (block A) A.file.stands.fills.of_form).0))

  module _ {a : Step} (S : SequenceTimes s (i + 1) to (d - 1) σ (Some a)) where
    one : {f : Form} (A : StatementAt f s i to) → depth (block A) ≤ d → Passes σ (time σ (first_part (block A))) (i + 1 + size (first_part (block A))) (Some a)
    one {f} A l = S.right f (first_in_is A (opened O)) (shallow O A l)

    one_gives : {f : Form} (A : StatementAt f s i to) → depth (block A) ≤ d → Gives σ.period (time σ (first_part (block A))) (Some a.ticks)
    one_gives {f} A l = subst (λ (t : ℕ). Gives σ.period (time σ (first_part (block A))) (Some t)) (one A l).0
        (gives_ticks σ.period (time σ (first_part (block A))) (one A l).1)

    pub first_late : to ≤ a.next → StatementTimes s i to d σ None
    first_late h = over_times (λ f A l. absurd (omega (arith, (one A l).2, (open_at A (opened O)).ends)))

    -- A LOOP

    pub loop_times : (z : Option ℕ) → a.next < to → (r.kind ≡ IF → ⊥)
        → (1 ≤ r.count → (t : ℕ) → Gives σ.period t (Some a.ticks) → Gives σ.period (loop_ticks (record_of r) t) z)
        → StatementTimes s i to d σ (up_to_next z (a.next + 1))
    loop_times z h x L = record {
      inside = goes_on z (omega (arith, S.inside.0)) (omega arith);
      right = λ f A l.
          let p = loop_of O σ (block A) A.file.stands (some A) x in
          passes σ (first_time σ (block A)) (a.next + 1) (i + first_size (block A)) z
          (subst (λ (t : ℕ). Gives σ.period t z) p.takes (L p.some_rounds (time σ (first_part (block A))) (one_gives A l)))
          (omega (arith, p.records, (one A l).2));
    }

    -- AN IF

    module _ (k : r.kind ≡ IF) where
      module _ {f : Form} (A : StatementAt f s i to) (l : depth (block A) ≤ d) where
        if_kind : kind_at s i ≡ IF
        if_kind = kind_is s i (sym O.same) ∙ k

        abbrev two : InFile f s (a.next + 1) to
        two = second_in A if_kind (one A l).2

        two_shallow : depth (second_part (block A)) ≤ d - 1
        two_shallow = omega (arith, ap depth (if_at A if_kind).is)

      pub second_over : SequenceTimes s (a.next + 1) to (d - 1) σ None → StatementTimes s i to d σ None
      second_over E = over_times (λ f A l.
          let o : σ.period < time σ (second_part (block A)) = E.right f (two A l) (two_shallow A l) in
          omega (arith, o, (parts_time σ f (block A) A.file.stands.fills.of_form).1))

      module _ {e : Step} (E : SequenceTimes s (a.next + 1) to (d - 1) σ (Some e)) where
        pub second_late : to ≤ e.next → StatementTimes s i to d σ None
        second_late h = over_times (λ f A l.
            let p : Passes σ (time σ (second_part (block A))) (a.next + 1 + size (second_part (block A))) (Some e) = E.right f (two A l) (two_shallow A l) in
            absurd (omega (arith, p.2, (one A l).2, (if_at A (if_kind A l)).ends)))

        pub branch_times : (z : Option ℕ) → e.next < to
            → ((t u : ℕ) → Gives σ.period t (Some a.ticks) → Gives σ.period u (Some e.ticks) → Gives σ.period (1 + max t u) z)
            → StatementTimes s i to d σ (up_to_next z (e.next + 1))
        branch_times z h J = record {
          inside = goes_on z (omega (arith, S.inside.0, E.inside.0)) (omega arith);
          right = λ f A l.
              let is = (if_at A (if_kind A l)).is in
              let t = time σ (first_part (block A)) in
              let u = time σ (second_part (block A)) in
              let p : Passes σ u (a.next + 1 + size (second_part (block A))) (Some e) = E.right f (two A l) (two_shallow A l) in
              let both = J t u (one_gives A l) (subst (λ (n : ℕ). Gives σ.period u (Some n)) p.0 (gives_ticks σ.period u p.1)) in
              passes σ (first_time σ (block A)) (e.next + 1) (i + first_size (block A)) z
              (subst (λ (n : ℕ). Gives σ.period n z) (sym (ap (first_time σ) is)) both)
              (omega (arith, ap first_size is, (one A l).2, p.2));
        }
