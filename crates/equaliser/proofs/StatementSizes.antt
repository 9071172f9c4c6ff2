-- What the first pass answers for a statement, by the kind of its record and what it answers for the blocks inside.
use Prim.Native.Nat.{ℕ, ◌+◌, ◌-◌, ◌≤◌, ◌<◌, max}
use native.Mathlib.Omega.{arith}
use mathlib.Core.Path.{◌≡◌, refl, ap, sym, subst, ◌∙◌}
use mathlib.Core.Bool.{Bool, true, false}
use mathlib.Core.{Logic.inl, List.List}
use lib.{Dec.eqb, ListN.length, ListN.set as set_at}
use borrow.Author.Tests.{eqb-true, eqb-false}
use Rattle.model.specs.declared.Settings.{Settings}
use Rattle.model.specs.declared.Form.TheVariants.{Task}
use Rattle.model.specs.Records.{Rec, kind_at, record_at, SKIP, IF, WHILE}
use Rattle.model.specs.Trees.{Block, nil, act, branch, while, size}
use Rattle.model.specs.Times.{time}
use Rattle.records.specs.declared.Record.{Record}
use Rattle.records.specs.{Records.record_of, Blocks.skip_records}
use Rattle.records.proofs.Blocks.{size_waiting}
use Rattle.reading.specs.{Closing.opens_block, Walks.StatementAt}
use Rattle.reading.specs.Ranges.{Stands, first_size, first_part, second_part, after_first, test_of}
use Rattle.reading.proofs.Walking.{every, block, skip_at, act_at, if_at, open_at, first_in_is, second_in, task_while}
use Rattle.std.specs.Prelude.{Option, None, Some}
use Rattle.timing.specs.{Times.Gives, Times.loop_ticks, Blocks.first_time}
use Rattle.timing.proofs.{Given.gives_ticks, Given.was_ticks, Given.was_over, Firsts.loop_count, Firsts.parts_time, Firsts.plain_at}
use Rattle.equaliser.specs.declared.measure.Extent.{Extent}
use Rattle.equaliser.specs.Merged.{padded, branch_out, loop_out, first_out, first_waits}
use Rattle.equaliser.specs.declared.pads.Pad.{Pad}
use Rattle.equaliser.specs.Pads.{pad_of, Kept, Same}
use Rattle.equaliser.specs.Sizes.{Small, Takes, PlainDone, PlainSize, BlockAsks, BlockDone, IsBlock, BlockSize, StatementAsks, IsStatement, StatementSize}
use Rattle.equaliser.proofs.Keeping.{keeps_here, keeps_before, keeps_after, before_none, before_on, kept_same, kept_on, kept_here, kept_closed, kept_plain}

-- the same time, and what follows from what is so
takes_on : (σ : Settings) {t u : ℕ} (D E : Extent → Type 0) → t ≡ u → ((e : Extent) → D e → E e) → (z : Option Extent) → Takes σ t D z → Takes σ u E z
takes_on σ D E q f None h = omega (arith, h)
takes_on σ D E q f (Some e) h = (sym q ∙ h.0, omega (arith, h.1), f e h.2)

-- a time that was told is the answer's
gives : {p t x : ℕ} → t ≡ x → t ≤ p → Gives p t (Some x)
gives {p} {t} e l = subst (λ (n : ℕ). Gives p t (Some n)) e (gives_ticks p t l)

-- what holds of the statement that is read holds of every statement that stands there
sized : {s : List ℕ} {i to : ℕ} (A : StatementAt Task s i to) {σ : Settings} {w : ℕ} {old new : List Pad} {e : Option Extent}
    → IsStatement s i to σ w new (block A) e → Same 0 i old new → StatementSize s i to σ w old new e
sized {s} {i} {to} A {σ} {w} {new = new} {e} h b = record {
  right = λ B. every (λ (x : Block). IsStatement s i to σ w new x e) A.file h B.file.block B.file.stands;
  before = b;
}

-- A RECORD THAT OPENS NO BLOCK

module _ {s : List ℕ} {i to : ℕ} (A : StatementAt Task s i to) {r : Record} (same : record_of r ≡ record_at s i) (o : opens_block r.kind ≡ false) where
  kind : r.kind ≡ kind_at s i
  kind = ap (λ (x : Rec). x.kind) same

  shut : opens_block (kind_at s i) ≡ false
  shut = ap opens_block (sym kind) ∙ o

  module _ (σ : Settings) {w : ℕ} where
    counts : (e : Extent) → PlainDone r w (i + 1) e → (e.records ≡ size (first_out σ w (block A))) × (e.wait ≡ first_waits w (block A))
    counts e P = go (eqb r.kind SKIP) refl
      where
        go : (t : Bool) → eqb r.kind SKIP ≡ t → (e.records ≡ size (first_out σ w (block A))) × (e.wait ≡ first_waits w (block A))
        go true q =
            let k = eqb-true r.kind SKIP q in
            let is = sym (skip_at A (sym kind ∙ k)) in
            ((P.skips k).0 ∙ ap (λ (x : Block). size (first_out σ w x)) is, (P.skips k).1 ∙ ap (λ (x : Rec). w + x.count) same ∙ ap (first_waits w) is)
        go false q =
            let k = eqb-false r.kind SKIP q in
            let a = act_at A shut (λ x. k (kind ∙ x)) in
            let one : e.records ≡ size (first_out σ w (act a.act_of (after_first (block A)))) = omega (arith, (P.acts k).0, size_waiting w (act a.act_of nil)) in
            (one ∙ ap (λ (x : Block). size (first_out σ w x)) (sym a.is), (P.acts k).1 ∙ ap (first_waits w) (sym a.is))

  module _ {σ : Settings} {w : ℕ} where
    pub plain_size : {z : Option Extent} → PlainSize σ r w (i + 1) z → (pads : List Pad) → StatementSize s i to σ w pads pads z
    plain_size {z} P pads =
        let p = plain_at A σ same o in
        sized A (takes_on σ (PlainDone r w (i + 1)) _ p.0 (λ e Q. record {
          goes = Q.goes ∙ ap (λ (n : ℕ). i + n) (sym p.1);
          counts = (counts σ e Q).0;
          waits = (counts σ e Q).1;
          kept = subst (λ (n : ℕ). Kept σ s to pads i (i + n)) (sym p.1) (kept_plain i shut);
        }) z P) (before_none i pads)

-- A RECORD THAT OPENS ONE

module _ {s : List ℕ} {i to w : ℕ} (Q : StatementAsks s i to w) where
  abbrev at : StatementAt Task s i to
  at = Q.statement

  abbrev one : Block
  one = first_part (block at)

  abbrev two : Block
  two = second_part (block at)

  abbrev after : Block
  after = after_first (block at)

  -- the blocks inside it take no longer
  parts : (σ : Settings) → (time σ one ≤ first_time σ (block at)) × (time σ two ≤ first_time σ (block at))
  parts σ = parts_time σ Task (block at) at.file.stands.fills.of_form

  module _ (o : opens_block (kind_at s i) ≡ true) where
    pub first_asks : BlockAsks s (i + 1) to
    first_asks = record { file = first_in_is at o; few = Q.few }

    module _ {σ : Settings} {old t : List Pad} {z : Option Extent} (X : BlockSize s (i + 1) to σ old t z) where
      first_is : IsBlock s (i + 1) to σ t one z
      first_is = X.right (first_in_is at o)

      first_before : Same 0 i old t
      first_before = before_on (omega arith) (before_none i old) X.before

    pub first_over : {σ : Settings} {old t : List Pad} → BlockSize s (i + 1) to σ old t None → StatementSize s i to σ w old t None
    first_over {σ} X =
        let over : σ.period < time σ one = first_is X in
        sized at (omega (arith, over, (parts σ).0)) (first_before X)

    module _ {σ : Settings} {old t : List Pad} {e : Extent} (X : BlockSize s (i + 1) to σ old t (Some e)) where
      first_told : (time σ one ≡ e.ticks) × (time σ one ≤ σ.period) × BlockDone s (i + 1) to σ t one e
      first_told = first_is X

      pub first_on : i < e.next
      first_on = omega (arith, first_told.2.goes)

      pub first_early : e.next < to
      first_early = omega (arith, first_told.2.goes, (open_at at o).ends)

      pub first_small : Small e
      first_small = first_told.2.small

  -- AN IF

  module _ (k : kind_at s i ≡ IF) where
    opens : opens_block (kind_at s i) ≡ true
    opens = ap opens_block k

    abbrev the_if : Block
    the_if = branch (test_of (record_at s i)) one two after

    module _ {σ : Settings} {old t : List Pad} {e : Extent} (X : BlockSize s (i + 1) to σ old t (Some e)) where
      first_done : BlockDone s (i + 1) to σ t one e
      first_done = (first_told opens X).2

      pub second_asks : BlockAsks s (e.next + 1) to
      second_asks = record { file = second_in at k first_done.goes; few = Q.few }

      module _ {u : List Pad} {z : Option Extent} (Y : BlockSize s (e.next + 1) to σ t u z) where
        second_is : IsBlock s (e.next + 1) to σ u two z
        second_is = Y.right (second_in at k first_done.goes)

        both_before : Same 0 i old u
        both_before = before_on (omega (arith, first_done.goes)) (first_before opens X) Y.before

      pub second_over : {u : List Pad} → BlockSize s (e.next + 1) to σ t u None → StatementSize s i to σ w old u None
      second_over Y =
          let over : σ.period < time σ two = second_is Y in
          sized at (omega (arith, over, (parts σ).1)) (both_before Y)

      module _ {u : List Pad} {f : Extent} (Y : BlockSize s (e.next + 1) to σ t u (Some f)) where
        second_told : (time σ two ≡ f.ticks) × (time σ two ≤ σ.period) × BlockDone s (e.next + 1) to σ u two f
        second_told = second_is Y

        second_done : BlockDone s (e.next + 1) to σ u two f
        second_done = second_told.2

        pub second_early : f.next < to
        second_early = omega (arith, first_done.goes, second_done.goes, (if_at at k).ends)

        pub second_small : Small f
        second_small = second_done.small

        -- the time of both
        module _ {z : Option ℕ} (J : (t u : ℕ) → Gives σ.period t (Some e.ticks) → Gives σ.period u (Some f.ticks) → Gives σ.period (1 + max t u) z) where
          both_gives : Gives σ.period (1 + max (time σ one) (time σ two)) z
          both_gives = J (time σ one) (time σ two) (gives (first_told opens X).0 (first_told opens X).1) (gives second_told.0 second_told.1)

        pub branch_over : ((t u : ℕ) → Gives σ.period t (Some e.ticks) → Gives σ.period u (Some f.ticks) → Gives σ.period (1 + max t u) None)
            → StatementSize s i to σ w old u None
        branch_over J =
            let over = was_over σ.period (1 + max (time σ one) (time σ two)) (both_gives J) in
            sized at (omega (arith, over, ap (first_time σ) (if_at at k).is)) (both_before Y)

        -- the ticks that make up its sides are kept
        module _ (long : length u ≡ 256) {l r : ℕ} (p : l ≡ f.ticks - e.ticks) (z : r ≡ e.ticks - f.ticks) where
          abbrev if_pads : List Pad
          if_pads = set_at u i (pad_of l r)

          pads : (l ≡ time σ two - time σ one) × (r ≡ time σ one - time σ two)
          pads = (omega (arith, first_told opens X, second_told), omega (arith, first_told opens X, second_told))

          kept : Kept σ s to if_pads i (i + first_size the_if)
          kept =
              let I = if_at at k in
              let m = i + 1 + size one in
              let n = m + 1 + size two in
              let end : n + 1 ≡ i + (3 + size one + size two) = omega arith in
              let first : Kept σ s to u (i + 1) m = kept_same first_done.kept Y.before (omega arith) (omega (arith, first_done.goes)) in
              let second : Kept σ s to u (m + 1) n = subst (λ (j : ℕ). Kept σ s to u (j + 1) (j + 1 + size two)) first_done.goes second_done.kept in
              let inner : Kept σ s to u (i + 1) (n + 1) =
              kept_on first (kept_on (kept_closed m (I.first.stops (omega (arith, I.ends)))) (kept_on second (kept_closed n (I.second.stops I.ends)))) in
              let here : Kept σ s to if_pads i (i + 1) =
              kept_here i the_if (subst (Stands Task s i to) I.is at.file.stands) (keeps_here u i (pad_of l r) (omega (arith, long, I.ends, Q.few)) ∙ rw (pads.0, pads.1) refl) in
              subst (λ (j : ℕ). Kept σ s to if_pads i j) end (kept_on here (kept_same inner (keeps_after u i (pad_of l r) (n + 1)) (omega arith) (omega arith)))

          pub branch_size : {o m n h : ℕ} → m ≡ e.records + skip_records (e.wait + l) → n ≡ f.records + skip_records (f.wait + r) → h ≡ skip_records w
              → ((t u : ℕ) → Gives σ.period t (Some e.ticks) → Gives σ.period u (Some f.ticks) → Gives σ.period (1 + max t u) (Some o))
              → StatementSize s i to σ w old if_pads (Some (record { ticks = o; records = h + (3 + (m + n)); wait = 0; next = f.next + 1 }))
          branch_size {o} {m} {n} {h} em en eh J =
              let took = was_ticks σ.period (1 + max (time σ one) (time σ two)) o (both_gives J) in
              sized at
              (subst (λ (c : Block). IsStatement s i to σ w if_pads c (Some (record { ticks = o; records = h + (3 + (m + n)); wait = 0; next = f.next + 1 }))) (sym (if_at at k).is) (
                took.0,
                omega (arith, took),
                record {
                  goes = omega (arith, first_done.goes, second_done.goes);
                  counts = omega (
                    arith,
                    em,
                    en,
                    eh,
                    size_waiting w (branch_out σ (test_of (record_at s i)) one two),
                    first_done.counts l,
                    second_done.counts r,
                    ap (λ (k : ℕ). size (padded σ 0 one k)) pads.0,
                    ap (λ (k : ℕ). size (padded σ 0 two k)) pads.1,
                  );
                  waits = refl;
                  kept = kept;
                },
              ))
              (before_on (omega arith) (both_before Y) (keeps_before u i (pad_of l r)))

  -- A LOOP

  module _ (o : opens_block (kind_at s i) ≡ true) (x : kind_at s i ≡ IF → ⊥) where
    abbrev the_loop : Block
    the_loop = while (test_of (record_at s i)) (record_at s i).count one after

    stands_loop : Stands Task s i to the_loop
    stands_loop = subst (Stands Task s i to) (task_while at o x) at.file.stands

    module _ {σ : Settings} {old t : List Pad} {e : Extent} (X : BlockSize s (i + 1) to σ old t (Some e)) {r : Record} (same : record_of r ≡ record_at s i) where
      body_done : BlockDone s (i + 1) to σ t one e
      body_done = (first_told o X).2

      module _ {z : Option ℕ} (L : 1 ≤ r.count → (u : ℕ) → Gives σ.period u (Some e.ticks) → Gives σ.period (loop_ticks (record_of r) u) z) where
        loop_gives : Gives σ.period (first_time σ the_loop) z
        loop_gives =
            let is = same ∙ stands_loop.fills.stands.0.is in
            let count = loop_count Task WHILE (test_of (record_at s i)) (record_at s i).count (inl refl) stands_loop.fills.of_form.0 in
            subst (λ (u : ℕ). Gives σ.period u z) (ap (λ (k : Rec). loop_ticks k (time σ one)) is)
            (L (omega (arith, count, ap (λ (k : Rec). k.count) is)) (time σ one) (gives (first_told o X).0 (first_told o X).1))

      pub loop_over : (1 ≤ r.count → (u : ℕ) → Gives σ.period u (Some e.ticks) → Gives σ.period (loop_ticks (record_of r) u) None)
          → StatementSize s i to σ w old t None
      loop_over L =
          sized at (omega (arith, was_over σ.period (first_time σ the_loop) (loop_gives L), ap (first_time σ) (task_while at o x))) (first_before o X)

      -- its body's time is kept
      module _ (long : length t ≡ 256) where
        abbrev loop_pads : List Pad
        loop_pads = set_at t i (pad_of e.ticks 0)

        body_kept : Kept σ s to loop_pads i (i + first_size the_loop)
        body_kept =
            let O = open_at at o in
            let m = i + 1 + size one in
            let end : m + 1 ≡ i + (2 + size one) = omega arith in
            let inner : Kept σ s to t (i + 1) (m + 1) = kept_on body_done.kept (kept_closed m (O.first.stops O.ends)) in
            subst (λ (j : ℕ). Kept σ s to loop_pads i j) end
            (kept_on
            (kept_here i the_loop stands_loop
            (ap (λ (p : Pad). p.first) (keeps_here t i (pad_of e.ticks 0) (omega (arith, long, O.ends, Q.few))) ∙ sym (first_told o X).0))
            (kept_same inner (keeps_after t i (pad_of e.ticks 0) (m + 1)) (omega arith) (omega arith)))

        pub loop_size : {z m n h : ℕ} → m ≡ e.records + skip_records (e.wait + 0) → n ≡ skip_records e.ticks → h ≡ skip_records w
            → (1 ≤ r.count → (u : ℕ) → Gives σ.period u (Some e.ticks) → Gives σ.period (loop_ticks (record_of r) u) (Some z))
            → StatementSize s i to σ w old loop_pads (Some (record { ticks = z; records = h + (5 + (m + n)); wait = 0; next = e.next + 1 }))
        loop_size {z} {m} {n} {h} em en eh L =
            let g = test_of (record_at s i) in
            let c = (record_at s i).count in
            let took = was_ticks σ.period (first_time σ the_loop) z (loop_gives L) in
            sized at
            (subst (λ (b : Block). IsStatement s i to σ w loop_pads b (Some (record { ticks = z; records = h + (5 + (m + n)); wait = 0; next = e.next + 1 }))) (sym (task_while at o x)) (
              took.0,
              omega (arith, took),
              record {
                goes = omega (arith, body_done.goes);
                counts = omega (arith, em, en, eh, size_waiting w (loop_out σ g c one), body_done.counts 0, ap skip_records (first_told o X).0);
                waits = refl;
                kept = body_kept;
              },
            ))
            (before_on (omega arith) (first_before o X) (keeps_before t i (pad_of e.ticks 0)))
