-- Loops whose bodies have SKIPs alone: single ticks of SKIP compose, the scan of such a body, and the loop as it is measured and written.
use Prim.Native.Nat.{ℕ, zero, suc, ◌+◌, ◌*◌, ◌≤◌, ◌<◌, min}
use native.Mathlib.{Omega.arith, Nat.add-zero}
use mathlib.Core.Path.{◌≡◌, refl, ap, ap₂, sym, subst, ◌∙◌}
use mathlib.Core.Bool.{Bool, true, false}
use mathlib.Core.List.{List, []}
use lib.{ListN.length, Dec.eqb, Dec.ltb}
use borrow.Author.Tests.{eqb-true, eqb-false, ltb-true, ltb-false}
use Rattle.model.specs.declared.Form.TheVariants.{Equalised}
use Rattle.model.specs.declared.Settings.{Settings}
use Rattle.model.specs.Records.{Rec, kind_at, record_at, SKIP, TIMES}
use Rattle.model.specs.Trees.{Test, check, Block, nil, skip, act, ◌⧺◌, size}
use Rattle.model.specs.{Times.time, Placement.Fits}
use Rattle.model.specs.{Layout.before, Layout.idle, Layout.idles, Standing.OfForm}
use Rattle.theory.specs.Windows.{Free}
use Rattle.laws.proofs.{Trees.⧺-nil, Trees.⧺-assoc}
use Rattle.theory.proofs.{Times.time-⧺, Windows.idles_longer}
use Rattle.records.specs.declared.Record.{Record}
use Rattle.records.specs.Records.{record_of}
use Rattle.records.proofs.Over.{lent, back}
use Rattle.reading.specs.{Closing.closes_block, Walks.Walk}
use Rattle.reading.specs.Ranges.{InFile, Ranged, first_size, after_first, test_of}
use Rattle.reading.proofs.FirstKinds.{kind_is}
use Rattle.reading.proofs.Walking.{kind_there, skip_at, walk_start, none_closed, walk_end, walk_at, walk_next}
use Rattle.placing.specs.declared.clock.State.{State}
use Rattle.placing.specs.States.{Laying, After, Stepped, Skipped}
use Rattle.placing.specs.Placed.{Room, Lays, step_bytes, StepLaid}
use Rattle.placing.proofs.{Going.after-⧺, Settling.alike_eq}
use Rattle.placing.proofs.Writing.{laid_bytes, Writing, first_room, writing_first, writing_same, writing_room, writing_next, writing_end}
use Rattle.layout.specs.declared.skips.Idle.{Idle}
use Rattle.layout.specs.Idling.{IdleBody, IdleRounds, IdleLoop, IdleHere, SkipsFit, SkipsLaid, checked, check_rec, IdleEnds, IdleFits, IdleLaid}
use Rattle.layout.specs.{Measured.laid, Meetings.meetings, Meetings.StatementMeasured}
use Rattle.layout.specs.Written.{LaidFits, StatementFits, StatementLaid}
use Rattle.layout.proofs.Unrolled.{rounds, rounds_none, rounds_first, laid_nil, laid_free}
use Rattle.layout.proofs.{Noting.plain_checked, Noting.noted_plain, Passing.laying_on, PassingSteps.LaidAs, PassingSteps.answered}
use Rattle.layout.proofs.{PassingRounds.Loop, Measuring.noted_as}
use Rattle.layout.proofs.PassingRounds as loops
use Rattle.layout.proofs.WritingSteps.{fits_as, answered_as, step_fits, step_lays, skip_fits, skip_laid}

-- TICKS OF SKIP

module _ (σ : Settings) where
  pub idles_more : (a b t : ℕ) → idles σ (a + b) t ≡ idles σ a t ⧺ idles σ b (t + time σ (idles σ a t))
  idles_more zero b t = let z : 0 + b ≡ b = omega arith in ap (λ (n : ℕ). idles σ n t) z ∙ ap (idles σ b) (sym (add-zero t))
  idles_more (suc a) b t =
      let x = idle σ t in
      let y = idles σ a (t + time σ x) in
      let e : t + time σ x + time σ y ≡ t + time σ (x ⧺ y) = omega (arith, time-⧺ σ x y) in
      let z : suc a + b ≡ suc (a + b) = omega arith in
      ap (λ (n : ℕ). idles σ n t) z
      ∙ ap (λ (c : Block). x ⧺ c) (idles_more a b (t + time σ x))
      ∙ sym (⧺-assoc x y (idles σ b (t + time σ x + time σ y)))
      ∙ ap (λ (n : ℕ). (x ⧺ y) ⧺ idles σ b n) e

  -- a SKIP, and what follows it
  skip_then : (n : ℕ) (b : Block) (t : ℕ) → laid σ (skip n b) t ≡ idles σ n t ⧺ laid σ b (t + time σ (idles σ n t))
  unfolding laid
  skip_then n b t = refl

  -- one more SKIP
  skips_then : (m n : ℕ) (b : Block) (t : ℕ) → idles σ m t ⧺ laid σ (skip n b) (t + time σ (idles σ m t)) ≡ idles σ (m + n) t ⧺ laid σ b (t + time σ (idles σ (m + n) t))
  skips_then m n b t =
      let x = idles σ m t in
      let u = t + time σ x in
      let y = idles σ n u in
      let e : u + time σ y ≡ t + time σ (x ⧺ y) = omega (arith, time-⧺ σ x y) in
      ap (λ (c : Block). x ⧺ c) (skip_then n b u)
      ∙ sym (⧺-assoc x y (laid σ b (u + time σ y)))
      ∙ ap (λ (v : ℕ). (x ⧺ y) ⧺ laid σ b v) e
      ∙ ap (λ (c : Block). c ⧺ laid σ b (t + time σ c)) (sym (idles_more m n t))

  -- c rounds
  rounds_idle : Fits σ → (a : Block) (m : ℕ) → OfForm Equalised a → ((t : ℕ) → laid σ a t ≡ idles σ m t) → (c t : ℕ) → Free σ 0 t → rounds σ a c t ≡ idles σ (c * m) t
  rounds_idle fits a m p h zero t f = let z : 0 ≡ 0 * m = omega arith in rounds_none σ a t ∙ ap (λ (n : ℕ). idles σ n t) z
  rounds_idle fits a m p h (suc c) t f =
      let u = t + time σ (laid σ a t) in
      let n : suc c * m ≡ m + c * m = omega arith in
      rounds_first σ fits a c t p f
      ∙ ap (λ (x : Block). laid σ a t ⧺ x) (rounds_idle fits a m p h c u (laid_free σ fits a 0 t p (omega arith) f))
      ∙ ap (λ (x : Block). x ⧺ idles σ (c * m) (t + time σ x)) (h t)
      ∙ sym (idles_more m (c * m) t)
      ∙ ap (λ (k : ℕ). idles σ k t) (sym n)

-- THE SCAN OF A BODY

-- of a block, the SKIPs up to `next` take `sum` ticks
pub record Scanned {s : List ℕ} {i to : ℕ} (F : InFile Equalised s i to) (p ticks next : ℕ) : Type 0 where
  pub walk : Walk F next
  pub sum : ℕ
  pub told : ticks ≡ min sum (p + 1)
  pub same : (σ : Settings) (t : ℕ) → laid σ F.block t ≡ idles σ sum t ⧺ laid σ walk.rest.block (t + time σ (idles σ sum t))

pub record Scanning (s : List ℕ) (i to p ticks next : ℕ) : Type 0 where
  pub range : Ranged s next to
  pub few : ticks ≤ p + 1
  pub right : (F : InFile Equalised s i to) → Scanned F p ticks next

pub scan_start : {s : List ℕ} {i to p : ℕ} → Ranged s i to → Scanning s i to p 0 i
scan_start R = record {
  range = R;
  few = omega arith;
  right = λ F. record { walk = walk_start F; sum = 0; told = omega arith; same = λ σ t. ap (laid σ F.block) (sym (add-zero t)) };
}

-- the product of a count and of ticks that are told up to p + 1
capped_product : (c m p k n : ℕ) → k ≡ min m (p + 1) → n ≡ min (c * k) (p + 1) → n ≡ min (c * m) (p + 1)
capped_product zero m p k n e f = omega arith
capped_product (suc c) m p k n e f = go (ltb p m) refl
  where
    go : (o : Bool) → ltb p m ≡ o → n ≡ min (suc c * m) (p + 1)
    go true h = let l = ltb-true p m h in omega arith
    go false h =
        let l = ltb-false p m h in
        let z : k ≡ m = omega arith in
        f ∙ ap (λ (x : ℕ). min (suc c * x) (p + 1)) z

module _ {s : List ℕ} {i to p ticks next : ℕ} (S : Scanning s i to p ticks next) (l : next < to) {x : Record} (e : record_of x ≡ record_at s next) where
  pub scan_next : x.kind ≡ SKIP → {n : ℕ} → n ≡ min (ticks + x.count) (p + 1) → Scanning s i to p n (next + 1)
  scan_next h {n} f = record { range = record { order = omega arith; inside = S.range.inside }; few = omega arith; right = λ F. more (S.right F) }
    where
      m : ℕ
      m = (record_at s next).count

      more : {F : InFile Equalised s i to} → Scanned F p ticks next → Scanned F p n (next + 1)
      more R =
          let k = kind_is s next (sym e) ∙ h in
          let is = skip_at (walk_at R.walk l (ap closes_block k)) k in
          let z : x.count ≡ m = ap (λ (y : Rec). y.count) e in
          record {
            walk = walk_next R.walk l (ap closes_block k) (omega (arith, ap first_size is));
            sum = R.sum + m;
            told = omega (arith, R.told);
            same = λ σ t. R.same σ t ∙ ap (λ (y : Block). idles σ R.sum t ⧺ laid σ y (t + time σ (idles σ R.sum t))) is
                ∙ skips_then σ R.sum m (after_first R.walk.rest.block) t;
          }

  -- another record ends it; r answers for c rounds
  pub scan_closed : {c : ℕ} {r : Idle} → closes_block x.kind ≡ true → r.ticks ≡ min (c * ticks) (p + 1) → r.next ≡ next → IdleRounds s i to c p r
  unfolding rounds
  scan_closed {c} {r} o f g = record {
    high = omega (arith, g, S.range.order);
    right = λ a A.
        let F : InFile Equalised s i to = record { block = a; stands = A; inside = S.range.inside } in
        body F (S.right F) (ap closes_block (kind_is s next (sym e)) ∙ o);
  }
    where
      body : (F : InFile Equalised s i to) → Scanned F p ticks next → closes_block (kind_at s next) ≡ true → IdleBody F.block i c p r
      body F R y =
          let none = none_closed R.walk y in
          record {
            all = c * R.sum;
            same = λ σ fits t free. rounds_idle σ fits F.block R.sum F.stands.fills.of_form
                (λ u. R.same σ u ∙ ap (λ (b : Block). idles σ R.sum u ⧺ laid σ b (u + time σ (idles σ R.sum u))) none
                ∙ ap (λ (b : Block). idles σ R.sum u ⧺ b) (laid_nil σ (u + time σ (idles σ R.sum u))) ∙ ⧺-nil (idles σ R.sum u)) c t free;
            told = capped_product c R.sum p ticks r.ticks R.told f;
            goes = omega (arith, g, walk_end R.walk none);
          }

-- A STATEMENT

module _ {s : List ℕ} {i to : ℕ} {x : Rec} {p : ℕ} where
  pub at_skip : x.kind ≡ SKIP → IdleHere s i to x p (record { ticks = x.count; next = i + 1 })
  at_skip k = record { skip = λ h. (refl, refl); loop = λ h. absurd (h k) }

  pub at_loop : (x.kind ≡ SKIP → ⊥) → x.kind ≡ TIMES → {b : Idle} → IdleRounds s (i + 1) to x.count p b
      → IdleHere s i to x p (record { ticks = b.ticks; next = b.next + 1 })
  at_loop k l {b} A = record { skip = λ h. absurd (k h); loop = λ h. record { kind = l; body = b; all = A; ticks = refl; next = refl } }

-- THE LOOP, MEASURED

module _ {σ : Settings} {s : State} (L : Laying σ s) {k : ℕ} {m : State} (K : Skipped σ k s m) where
  -- the ticks of SKIP end too late
  pub idle_late : σ.period < m.tick → IdleEnds σ k s m
  idle_late h = record {
    late = λ q l. h;
    after = λ q l.
        let t = s.tick in
        let u = time-⧺ σ (idles σ k t) (before σ (t + time σ (idles σ k t)) 1 ⧺ act (check q) nil) in
        absurd (omega (arith, (K.after (omega (arith, l, u))).tick));
    few = K.few;
  }

  module _ (soon : m.tick ≤ σ.period) where
    skips_after : After σ (idles σ k s.tick) s m
    skips_after = go (ltb σ.period (s.tick + time σ (idles σ k s.tick))) refl
      where
        go : (o : Bool) → ltb σ.period (s.tick + time σ (idles σ k s.tick)) ≡ o → After σ (idles σ k s.tick) s m
        go true x = let l = K.late (ltb-true σ.period _ x) in absurd (omega (arith, soon))
        go false x = K.after (ltb-false σ.period _ x)

    pub idle_laying : Laying σ m
    idle_laying = laying_on L skips_after soon

    pub idle_ends : {r : State} → Stepped σ m 1 r → IdleEnds σ k s r
    idle_ends {r} T = record { late = λ q l. omega (arith, (all q).tick); after = λ q l. all q; few = (all first).shows.few }
      where
        all : (q : Test) → After σ (checked σ k q s.tick) s r
        all q =
            after-⧺ (idles σ k s.tick) _ skips_after
            (subst (λ (u : ℕ). After σ (before σ u 1 ⧺ act (check q) nil) m r) skips_after.tick (T.after (check q) refl))

        first : Test
        first = record { relation = 0; left = 0; right = 0 }

-- ticks that are told up to P + 1
pub idle_capped : {σ : Settings} {k n : ℕ} {s r : State} → n ≡ min k (σ.period + 1) → IdleEnds σ n s r → IdleEnds σ k s r
idle_capped {σ} {k} {n} {s} {r} e E = go (ltb σ.period k) refl
  where
    go : (o : Bool) → ltb σ.period k ≡ o → IdleEnds σ k s r
    go true h =
        let l = ltb-true σ.period k h in
        let long : (m : ℕ) (q : Test) → m ≤ time σ (checked σ m q s.tick) = λ m q.
        omega (arith, idles_longer σ m s.tick, time-⧺ σ (idles σ m s.tick) (before σ (s.tick + time σ (idles σ m s.tick)) 1 ⧺ act (check q) nil)) in
        record { late = λ q x. E.late q (omega (arith, long n q)); after = λ q x. absurd (omega (arith, long k q)); few = E.few }
    go false h = let l = ltb-false σ.period k h in let z : n ≡ k = omega arith in subst (λ (m : ℕ). IdleEnds σ m s r) z E

-- THE LOOP, WRITTEN

module _ {σ : Settings} {k : ℕ} {x : Rec} {s : State} {out : List ℕ} (F : IdleFits σ k x s out) where
  abbrev skips : Block
  skips = idles σ k s.tick

  -- the CHECK from tick u on
  abbrev check_from : ℕ → Block
  check_from u = before σ u 1 ⧺ act (check (test_of x)) nil

  abbrev rest : Block
  rest = check_from (s.tick + time σ skips)

  pub skips_soon : s.tick + time σ skips ≤ σ.period
  skips_soon = omega (arith, F.within, time-⧺ σ skips rest)

  pub skips_room : Room skips s out
  skips_room = first_room skips rest F.room

  module _ {mid : List ℕ} {m : State} (L : Lays σ skips s out mid m) where
    pub skips_laying : Laying σ m
    skips_laying = laying_on F.laying L.after (omega (arith, L.after.tick, skips_soon))

    pub check_left : Writing σ (checked σ k (test_of x) s.tick) (check_from m.tick ⧺ nil) s m out mid
    check_left = writing_same (writing_first skips rest F.room L) (alike_eq (ap check_from (sym L.after.tick) ∙ sym (⧺-nil (check_from m.tick))))

    module _ {y : Rec} (e : y ≡ check_rec x) {n : ℕ} (h : n ≡ laid_bytes s m) where
      pub idle_check_fits : length (step_bytes σ m 1 y) ≤ length (lent mid n)
      idle_check_fits = rw h (step_fits σ 1 (check (test_of x)) e (writing_room (check_from m.tick) nil check_left))

      pub idle_laid : {ys : List ℕ} {r : State} → StepLaid σ m 1 y (lent mid n) ys r → IdleLaid σ k x s out (back mid n ys) r
      idle_laid {ys} {r} T' =
          let T = subst (λ (v : ℕ). StepLaid σ m 1 y (lent mid v) ys r) h T' in
          subst (λ (v : ℕ). IdleLaid σ k x s out (back mid v ys) r) (sym h)
          (record { lays = writing_end (writing_next (check_from m.tick) nil check_left (step_lays σ 1 (check (test_of x)) e refl T)) })

-- A LOOP OF THE FILE

module _ {s : List ℕ} {i to : ℕ} {σ : Settings} {from : State} {c : ℕ} (O : Loop s i to σ from c) {r : Idle} (A : IdleRounds s (i + 1) to c σ.period r) where
  the : IdleBody (loops.body O) (i + 1) c σ.period r
  the = A.right (loops.body O) (loops.opened O).first

  abbrev whole : Block
  whole = checked σ the.all (loops.test O) from.tick

  idle_as : LaidAs O.statement whole (2 + size (loops.body O))
  unfolding rounds
  idle_as =
      let A = loops.times_as O in
      let rest : Block → Block = λ b. before σ (from.tick + time σ b) 1 ⧺ act (check (loops.test O)) nil in
      let R = O.statement.ready in
      record { same = A.same ∙ ap (λ (b : Block). b ⧺ rest b) (the.same σ R.laying.settings.fits from.tick R.free); records = A.records }

  -- its END stands at the next record
  pub idle_inside : r.next < to
  idle_inside = omega (arith, the.goes, (loops.opened O).ends)

  goes : r.next + 1 ≡ i + (2 + size (loops.body O))
  goes = omega (arith, the.goes)

  plain : meetings σ whole from.tick ≡ []
  plain = plain_checked σ the.all (loops.test O) from.tick

  pub idle_measured : {p : ℕ} {table : List ℕ} {x : State} → p ≤ 1821 → IdleEnds σ r.ticks from x
      → StatementMeasured s i to σ from p table table (record { state = x; next = r.next + 1; ifs = p })
  idle_measured {p} {table} {x} few E' =
      let E = idle_capped the.told E' in
      record {
        passed = answered idle_as (record { late = E.late (loops.test O); after = E.after (loops.test O); goes = λ h. goes });
        noted = λ y Y l. noted_as idle_as (noted_plain few plain) y Y;
      }

module _ {s : List ℕ} {i to : ℕ} {σ : Settings} {from : State} {p : ℕ} {table old : List ℕ} (F : StatementFits s i to σ from p table old) (k : kind_at s i ≡ TIMES) {x : Rec}
    (e : x ≡ record_at s i) {r : Idle} (A : IdleRounds s (i + 1) to x.count σ.period r) where
  abbrev loop : Loop s i to σ from x.count
  loop = record { statement = F.statement; kind = k; count_is = ap (λ (y : Rec). y.count) e }

  fits : LaidFits σ (whole loop A) from old
  fits = fits_as F (idle_as loop A)

  -- so the ticks are told
  same_whole : checked σ r.ticks (test_of x) from.tick ≡ whole loop A
  same_whole =
      let B = the loop A in
      let t = from.tick in
      let q = loops.test loop in
      let n : r.ticks ≡ B.all = omega (
        arith,
        B.told,
        fits.within,
        idles_longer σ B.all t,
        time-⧺ σ (idles σ B.all t) (before σ (t + time σ (idles σ B.all t)) 1 ⧺ act (check q) nil),
      ) in
      ap₂ (λ (m : ℕ) (y : Rec). checked σ m (test_of y) t) n e

  idle_fits : IdleFits σ r.ticks x from old
  idle_fits =
      let L = subst (λ (b : Block). LaidFits σ b from old) (sym same_whole) fits in
      record { laying = F.statement.ready.laying; within = L.within; room = L.room }

  idle_written : {new : List ℕ} {y : State} → IdleLaid σ r.ticks x from old new y → StatementLaid s i to σ from p old new (record { state = y; next = r.next + 1; ifs = p })
  idle_written {new} {y} I =
      answered_as F (idle_as loop A)
      (record {
        lays = subst (λ (b : Block). Lays σ b from old new y) same_whole I.lays;
        goes = goes loop A;
        ifs = omega (arith, ap length (plain loop A));
      })

-- A STATEMENT OF THE FILE

module _ {s : List ℕ} {i to : ℕ} {σ : Settings} {from : State} {p : ℕ} {table old : List ℕ} (F : StatementFits s i to σ from p table old) {x : Record} (e : record_of x ≡ record_at s i)
    {r : Idle} (I : IdleHere s i to (record_of x) σ.period r) where
  -- where it is a loop
  module _ (h : x.kind ≡ SKIP → ⊥) where
    it : IdleLoop s i to (record_of x) σ.period r
    it = I.loop h

    loop_fits : IdleFits σ r.ticks (record_of x) from old
    loop_fits =
        subst (λ (k : ℕ). IdleFits σ k (record_of x) from old) (sym it.ticks) (idle_fits F (kind_there F.statement.here e it.kind) e it.all)

    loop_laid : {new : List ℕ} {y : State} → IdleLaid σ r.ticks (record_of x) from old new y → StatementLaid s i to σ from p old new (record { state = y; next = r.next; ifs = p })
    loop_laid {new} {y} L =
        subst (λ (j : ℕ). StatementLaid s i to σ from p old new (record { state = y; next = j; ifs = p })) (sym it.next)
        (idle_written F (kind_there F.statement.here e it.kind) e it.all (subst (λ (k : ℕ). IdleLaid σ k (record_of x) from old new y) it.ticks L))

  pub skips_fit : SkipsFit σ r.ticks (record_of x) from old
  skips_fit = go (eqb x.kind SKIP) refl
    where
      go : (b : Bool) → eqb x.kind SKIP ≡ b → SkipsFit σ r.ticks (record_of x) from old
      go true z =
          let k = eqb-true x.kind SKIP z in
          subst (λ (m : ℕ). SkipsFit σ m (record_of x) from old) (sym (I.skip k).0)
          (record { laying = F.statement.ready.laying; within = (skip_fits F e k).within; room = (skip_fits F e k).room; check = λ h. absurd (h k) })
      go false z =
          let h = eqb-false x.kind SKIP z in
          let L = loop_fits h in
          record { laying = L.laying; within = skips_soon L; room = skips_room L; check = λ y. L }

  pub skips_laid : {new : List ℕ} {y : State} → SkipsLaid σ r.ticks (record_of x) from old new y → StatementLaid s i to σ from p old new (record { state = y; next = r.next; ifs = p })
  skips_laid {new} {y} L = go (eqb x.kind SKIP) refl
    where
      go : (b : Bool) → eqb x.kind SKIP ≡ b → StatementLaid s i to σ from p old new (record { state = y; next = r.next; ifs = p })
      go true z =
          let k = eqb-true x.kind SKIP z in
          subst (λ (j : ℕ). StatementLaid s i to σ from p old new (record { state = y; next = j; ifs = p })) (sym (I.skip k).1)
          (skip_laid F e k (subst (λ (m : ℕ). Lays σ (idles σ m from.tick) from old new y) (I.skip k).0 (L.skips k)))
      go false z = let h = eqb-false x.kind SKIP z in loop_laid h (L.check h)
