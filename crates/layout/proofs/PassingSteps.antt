-- Measuring a statement that opens no block: a SKIP, or a step with its ticks.
use Prim.Native.Nat.{ℕ, ◌+◌, ◌≤◌, ◌%◌}
use native.Mathlib.Omega.{arith}
use mathlib.Core.Path.{◌≡◌, refl, ap, sym, subst, ◌∙◌}
use mathlib.Core.{Bool.false≢true, List.List}
use lib.Dec.{eqb}
use Rattle.model.specs.declared.Settings.{Settings}
use Rattle.model.specs.declared.Form.TheVariants.{Equalised}
use Rattle.model.specs.Records.{record_at, SKIP, IF, TIMES}
use Rattle.model.specs.Trees.{Act, set, read, write, check, beat, save, Block, nil, skip, act, ◌⧺◌, act_rec}
use Rattle.model.specs.{Times.ticks, Times.longest, Layout.before, Layout.idles}
use Rattle.model.specs.Standing.{Fit, OfForm}
use Rattle.theory.proofs.Sequences.{either}
use Rattle.records.specs.declared.Record.{Record}
use Rattle.records.specs.Records.{record_of}
use Rattle.reading.specs.Ranges.{Stands, first_size, after_first}
use Rattle.reading.proofs.FirstKinds.{IsAct}
use Rattle.timing.specs.Times.{step_ticks}
use Rattle.timing.proofs.Firsts.{act_ticks}
use Rattle.placing.specs.declared.clock.State.{State}
use Rattle.layout.specs.declared.measure.Passage.{Passage}
use Rattle.placing.specs.States.{Layable, Stepped, Skipped}
use Rattle.layout.specs.Ranges.{only}
use Rattle.layout.specs.Measured.{laid, Passes, Statement, StatementPassed}
use Rattle.reading.proofs.Walking.{every, kind_there, count_there, skip_at}
use Rattle.layout.proofs.{Standing.act_at, Unrolled.laid_skip, Unrolled.laid_act, Passing.passed}

-- the acts of an equalised file take at least a tick, and at most the longest
pub act_short : {σ : Settings} → Layable σ → (p : Act) → Fit Equalised (act_rec p) → (1 ≤ ticks σ p) × (ticks σ p ≤ longest σ)
act_short {σ} L (set o t l x) F = either (λ (n : ℕ). (1 ≤ n) × (n ≤ longest σ)) (eqb (o % 16) 3) σ.multiply σ.set (omega arith) (omega arith)
act_short L (read a p) F = omega arith
act_short L (write a p) F = omega arith
act_short L (check q) F = absurd (false≢true F.kind)
act_short L (beat x) F = absurd (false≢true F.kind)
act_short L (save m) F = absurd (false≢true F.kind)

-- HOW A STATEMENT IS LAID

-- the statement at i, of n records, is laid as c
pub record LaidAs {s : List ℕ} {i to : ℕ} {σ : Settings} {from : State} (S : Statement s i to σ from) (c : Block) (n : ℕ) : Type 0 where
  pub same : laid σ (only S.here.file.block) from.tick ≡ c
  pub records : first_size S.here.file.block ≡ n

module _ {s : List ℕ} {i to : ℕ} {σ : Settings} {from : State} {S : Statement s i to σ from} where
  pub laid_as : {c : Block} (b : Block) → S.here.file.block ≡ b → laid σ (only b) from.tick ≡ c → LaidAs S c (first_size b)
  laid_as b e f = record { same = ap (λ (x : Block). laid σ (only x) from.tick) e ∙ f; records = ap first_size e }

  -- what holds of c and n holds of how every block at the place is laid
  pub laid_every : {c : Block} {n : ℕ} (P : Block → ℕ → Type 0) → LaidAs S c n → P c n → (b : Block) → Stands Equalised s i to b
      → P (laid σ (only b) from.tick) (first_size b)
  laid_every {c} P A h b B =
      let b₀ = S.here.file.block in
      every (λ (x : Block). P (laid σ (only x) from.tick) (first_size x)) S.here.file
      (subst (λ (d : Block). P d (first_size b₀)) (sym A.same) (subst (P c) (sym A.records) h)) b B

  pub answered : {c : Block} {n : ℕ} {r : Passage} → LaidAs S c n → Passes σ c (i + n) from r → StatementPassed s i to σ from r
  answered {r = r} A h = record { right = laid_every (λ (d : Block) (m : ℕ). Passes σ d (i + m) from r) A h }

module _ {s : List ℕ} {i to : ℕ} {σ : Settings} {from : State} (S : Statement s i to σ from) where
  abbrev pub block : Block
  block = S.here.file.block

  -- the record at i
  module _ {x : Record} (e : record_of x ≡ record_at s i) where
    -- A SKIP

    pub skip_as : x.kind ≡ SKIP → LaidAs S (idles σ x.count from.tick) 1
    skip_as k =
        let n = (record_at s i).count in
        laid_as (skip n (after_first block)) (skip_at S.here (kind_there S.here e k))
        (laid_skip σ n from.tick ∙ ap (λ (m : ℕ). idles σ m from.tick) (sym (count_there S.here e)))

    pub skip_passed : x.kind ≡ SKIP → {r : State} {m : ℕ} → Skipped σ x.count from r → StatementPassed s i to σ from (record { state = r; next = i + 1; ifs = m })
    skip_passed k K = answered (skip_as k) (record { late = K.late; after = K.after; goes = λ h. refl })

    -- ANY OTHER

    module _ (k : x.kind ≡ SKIP → ⊥) (m : x.kind ≡ IF → ⊥) (l : x.kind ≡ TIMES → ⊥) where
      pub is_act : IsAct (record_at s i) block
      is_act =
          let same = sym (kind_there S.here e refl) in
          act_at S.here (λ h. k (same ∙ h)) (λ h. m (same ∙ h)) (λ h. l (same ∙ h))

      pub act_lasts : ticks σ is_act.act_of ≡ step_ticks σ (record_of x)
      act_lasts = sym (ap (step_ticks σ) (e ∙ is_act.same) ∙ act_ticks σ is_act.act_of)

      act_fit : Fit Equalised (act_rec is_act.act_of)
      act_fit = (subst (λ (b : Block). OfForm Equalised b) is_act.is S.here.file.stands.fills.of_form).0

      pub step_short : {d : ℕ} → d ≡ step_ticks σ (record_of x) → (1 ≤ d) × (d ≤ longest σ)
      step_short h = let a = act_short S.ready.laying.settings is_act.act_of act_fit in omega (arith, act_lasts)

      module _ {d : ℕ} (h : d ≡ step_ticks σ (record_of x)) where
        pub act_as : LaidAs S (before σ from.tick d ⧺ act is_act.act_of nil) 1
        act_as =
            laid_as (act is_act.act_of (after_first block)) is_act.is
            (laid_act σ is_act.act_of from.tick ∙ ap (λ (n : ℕ). before σ from.tick n ⧺ act is_act.act_of nil) (act_lasts ∙ sym h))

        pub act_passed : {p : ℕ} {r : State} → Stepped σ from d r → StatementPassed s i to σ from (record { state = r; next = i + 1; ifs = p })
        act_passed T = answered act_as (passed (T.after is_act.act_of (act_lasts ∙ sym h)) refl)
