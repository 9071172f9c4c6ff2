-- Laws of the table that the first pass keeps: what a store leaves, and the entries of one range of records after another.
use Prim.Native.Nat.{ℕ, ◌+◌, ◌≤◌, ◌<◌}
use native.Mathlib.Omega.{arith}
use mathlib.Core.Path.{◌≡◌, refl, ap, sym, subst, ◌∙◌}
use mathlib.Core.{Bool.Bool, Bool.true, Bool.false, List.List}
use lib.ListN.{length, set as set_at}
use lib.{Seq.get_or-set_same, Seq.get_or-set_other, Dec.ltb}
use borrow.Author.Tests.{ltb-true, ltb-false}
use Rattle.model.specs.declared.Settings.{Settings}
use Rattle.model.specs.declared.Form.TheVariants.{Task}
use Rattle.model.specs.Records.{Rec, kind_at}
use Rattle.model.specs.Trees.{Block, nil, skip, act, branch, while, times}
use Rattle.reading.specs.{Closing.opens_block, Closing.closes_block, Ranges.Stands}
use Rattle.reading.proofs.Standing.{stands_once, stands_closed}
use Rattle.equaliser.specs.declared.pads.Pad.{Pad}
use Rattle.equaliser.specs.Pads.{pad_of, pad_at, Entry, Kept, Same}

-- A STORE

module _ (old : List Pad) (i : ℕ) (p : Pad) where
  pub keeps_here : i < length old → pad_at (set_at old i p) i ≡ p
  keeps_here h = get_or-set_same old i p (pad_of 0 0) h

  pub keeps_before : Same 0 i old (set_at old i p)
  keeps_before = record { same = λ k a b. get_or-set_other old i k p (pad_of 0 0) (λ e. omega arith) }

  pub keeps_after : (n : ℕ) → Same (i + 1) n old (set_at old i p)
  keeps_after n = record { same = λ k a b. get_or-set_other old i k p (pad_of 0 0) (λ e. omega arith) }

-- THE RECORDS BEFORE

pub before_none : (i : ℕ) (t : List Pad) → Same 0 i t t
before_none i t = record { same = λ k a b. refl }

pub before_on : {i j : ℕ} {old mid new : List Pad} → i ≤ j → Same 0 i old mid → Same 0 j mid new → Same 0 i old new
before_on h A B = record { same = λ k a b. B.same k a (omega arith) ∙ A.same k a b }

-- ENTRIES

-- a record that opens no block has none
entry_plain : (σ : Settings) (s : List ℕ) (p : Pad) (i to : ℕ) (b : Block) → opens_block (kind_at s i) ≡ false → Stands Task s i to b → Entry σ p b
entry_plain σ s p i to nil o B = tt
entry_plain σ s p i to (skip n b) o B = tt
entry_plain σ s p i to (act r b) o B = tt
entry_plain σ s p i to (branch q a d b) o B =
    let z : ◌≡◌ {A = ℕ} 0 1 = cc (ap (λ (r : Rec). opens_block r.kind) B.fills.stands.0.is) in absurd (omega arith)
entry_plain σ s p i to (while q n a b) o B =
    let z : ◌≡◌ {A = ℕ} 0 1 = cc (ap (λ (r : Rec). opens_block r.kind) B.fills.stands.0.is) in absurd (omega arith)
entry_plain σ s p i to (times q n a b) o B = tt

module _ {σ : Settings} {s : List ℕ} {to : ℕ} where
  pub kept_same : {old new : List Pad} {i j m n : ℕ} → Kept σ s to old i j → Same m n old new → m ≤ i → j ≤ n → Kept σ s to new i j
  kept_same {old} {new} K S a b = record { entry = λ k l h c C. subst (λ (p : Pad). Entry σ p c) (sym (S.same k (omega arith) (omega arith))) (K.entry k l h c C) }

  pub kept_none : {t : List Pad} (i : ℕ) → Kept σ s to t i i
  kept_none i = record { entry = λ k l h b B. absurd (omega arith) }

  pub kept_on : {t : List Pad} {i j m : ℕ} → Kept σ s to t i j → Kept σ s to t j m → Kept σ s to t i m
  kept_on {t} {i} {j} {m} A B = record { entry = λ k l h b C. go k l h b C (ltb k j) refl }
    where
      go : (k : ℕ) → i ≤ k → k < m → (b : Block) → Stands Task s k to b → (o : Bool) → ltb k j ≡ o → Entry σ (pad_at t k) b
      go k l h b C true e = A.entry k l (ltb-true k j e) b C
      go k l h b C false e = B.entry k (ltb-false k j e) h b C

  -- the entry of one record
  kept_one : {t : List Pad} (i : ℕ) → ((b : Block) → Stands Task s i to b → Entry σ (pad_at t i) b) → Kept σ s to t i (i + 1)
  kept_one {t} i f = record {
    entry = λ k l h b B.
        let e : k ≡ i = omega arith in
        subst (λ (x : ℕ). Entry σ (pad_at t x) b) (sym e) (f b (subst (λ (x : ℕ). Stands Task s x to b) e B));
  }

  pub kept_here : {t : List Pad} (i : ℕ) (b : Block) → Stands Task s i to b → Entry σ (pad_at t i) b → Kept σ s to t i (i + 1)
  kept_here {t} i b B E = kept_one i (λ c C. subst (Entry σ (pad_at t i)) (stands_once b c B C) E)

  -- there is none for a record that closes a block, or that opens none
  pub kept_closed : {t : List Pad} (i : ℕ) → closes_block (kind_at s i) ≡ true → Kept σ s to t i (i + 1)
  kept_closed {t} i h = kept_one i (λ b B. subst (Entry σ (pad_at t i)) (sym (stands_closed b B h)) tt)

  pub kept_plain : {t : List Pad} (i : ℕ) → opens_block (kind_at s i) ≡ false → Kept σ s to t i (i + 1)
  kept_plain {t} i o = kept_one i (λ b B. entry_plain σ s (pad_at t i) i to b o B)
