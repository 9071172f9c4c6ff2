-- The meetings of one block after another, and how they are noted in the table and read from it.
use Prim.Native.Nat.{ℕ, zero, suc, ◌+◌, ◌*◌, ◌-◌, ◌%◌, ◌≤◌, ◌<◌, min, max}
use native.Mathlib.{Omega.arith, Nat.add-zero, Nat.add_assoc}
use mathlib.Core.Path.{◌≡◌, refl, ap, ap₂, sym, subst, ◌∙◌}
use mathlib.Core.Bool.{Bool, true, false}
use mathlib.Core.List.{List, [], ◌∷◌, ◌++◌, append_assoc}
use lib.ListN.{length, get_or, length-append, get_or-append}
use lib.{Seq.get_or-append-add, Dec.eqb, Dec.ltb}
use borrow.Author.Tests.{ltb-true, ltb-false}
use Rattle.model.specs.declared.Settings.{Settings}
use Rattle.model.specs.Trees.{Test, Act, check, save, Block, nil, skip, act, branch, while, times, ◌⧺◌, size}
use Rattle.model.specs.{Times.ticks, Times.time, Equalising.merge}
use Rattle.model.specs.Layout.{commands, left, before, idle, idles, fill}
use Rattle.theory.specs.Windows.{round}
use Rattle.theory.proofs.{Sequences.either}
use Rattle.records.proofs.Blocks.{size_waiting}
use Rattle.layout.specs.Idling.{checked}
use Rattle.layout.specs.Meetings.{meetings, Noting, Notes, Noted, Holds}

-- THE TABLE

pub notes_none : (k : ℕ) (t : List ℕ) → Notes [] k t t
notes_none k t = record { same = refl; kept = λ j h. refl; noted = λ j h l m. absurd (omega arith) }

module _ {old mid new : List ℕ} {k n : ℕ} (few : k ≤ 1821) where
  -- one list after another
  pub notes-++ : (a b : List ℕ) → n ≡ min (k + length a) 1821 → Notes a k old mid → Notes b n mid new → Notes (a ++ b) k old new
  notes-++ a b e A B = record {
    same = B.same ∙ A.same;
    kept = λ j h. B.kept j (omega arith) ∙ A.kept j h;
    noted = λ j h l m. go j h l m (ltb j (length a)) refl;
  }
    where
      go : (j : ℕ) → j < length (a ++ b) → k + j < 1821 → k + j < length old → (o : Bool) → ltb j (length a) ≡ o → get_or new (k + j) 0 ≡ get_or (a ++ b) j 0
      go j h l w true x =
          let y = ltb-true j (length a) x in
          B.kept (k + j) (omega arith) ∙ A.noted j y l w ∙ sym (get_or-append a b 0 j y)
      go j h l w false x =
          let y = ltb-false j (length a) x in
          let i = j - length a in
          let p : k + j ≡ n + i = omega arith in
          let q : length a + i ≡ j = omega arith in
          ap (λ (m : ℕ). get_or new m 0) p
          ∙ B.noted i (omega (arith, length-append a b)) (omega arith) (omega (arith, A.same))
          ∙ sym (get_or-append-add a b i 0)
          ∙ ap (λ (m : ℕ). get_or (a ++ b) m 0) q

  -- a meeting before them, which is noted last
  pub notes_first : {e : ℕ} (ms : List ℕ) → n ≡ min (k + 1) 1821 → Notes ms n old mid → Noting k e mid new → Notes (e ∷ ms) k old new
  notes_first {e} ms z M N = record { same = N.same ∙ M.same; kept = λ j h. N.others j (λ x. omega arith) ∙ M.kept j (omega arith); noted = go }
    where
      go : (j : ℕ) → j < length (e ∷ ms) → k + j < 1821 → k + j < length old → get_or new (k + j) 0 ≡ get_or (e ∷ ms) j 0
      go zero h l w = ap (λ (m : ℕ). get_or new m 0) (add-zero k) ∙ N.there (omega arith) (omega (arith, M.same))
      go (suc i) h l w =
          let p : k + suc i ≡ n + i = omega arith in
          N.others (k + suc i) (λ x. omega arith) ∙ ap (λ (m : ℕ). get_or mid m 0) p ∙ M.noted i (omega arith) (omega arith) (omega arith)

-- READING

pub holds_notes : {ms old new : List ℕ} → Notes ms 0 old new → length old ≡ 1821 → length ms ≤ 1821 → Holds ms 0 new
holds_notes N e h = record { room = omega arith; there = λ j l. N.noted j l (omega arith) (omega arith) }

module _ {table : List ℕ} {k : ℕ} where
  pub holds_first : {e : ℕ} {ms : List ℕ} → Holds (e ∷ ms) k table → (k < 1821) × (get_or table k 0 ≡ e)
  holds_first H = (omega (arith, H.room), ap (λ (m : ℕ). get_or table m 0) (sym (add-zero k)) ∙ H.there 0 (omega arith))

  pub holds_rest : {e : ℕ} (ms : List ℕ) → Holds (e ∷ ms) k table → Holds ms (k + 1) table
  holds_rest ms H = record {
    room = omega (arith, H.room);
    there = λ j l. let p : k + 1 + j ≡ k + suc j = omega arith in ap (λ (m : ℕ). get_or table m 0) p ∙ H.there (suc j) (omega arith);
  }

  module _ (a b : List ℕ) (H : Holds (a ++ b) k table) where
    pub holds_left : Holds a k table
    holds_left = record {
      room = omega (arith, H.room, length-append a b);
      there = λ j l. H.there j (omega (arith, length-append a b)) ∙ get_or-append a b 0 j l;
    }

    pub holds_right : Holds b (k + length a) table
    holds_right = record {
      room = omega (arith, H.room, length-append a b);
      there = λ j l.
          let p : k + length a + j ≡ k + (length a + j) = omega arith in
          ap (λ (m : ℕ). get_or table m 0) p ∙ H.there (length a + j) (omega (arith, length-append a b)) ∙ get_or-append-add a b j 0;
    }

-- BLOCKS

module _ (σ : Settings) where
  pub meetings-⧺ : (a b : Block) (t : ℕ) → meetings σ (a ⧺ b) t ≡ meetings σ a t ++ meetings σ b (t + time σ a)
  meetings-⧺ nil b t = ap (meetings σ b) (sym (add-zero t))
  meetings-⧺ (skip n a) b t = meetings-⧺ a b (t + n) ∙ ap (λ (u : ℕ). meetings σ a (t + n) ++ meetings σ b u) (add_assoc t n (time σ a))
  meetings-⧺ (act p a) b t = meetings-⧺ a b (t + ticks σ p) ∙ ap (λ (u : ℕ). meetings σ a (t + ticks σ p) ++ meetings σ b u) (add_assoc t (ticks σ p) (time σ a))
  meetings-⧺ (branch q x y a) b t =
      let e = t + 1 + max (time σ x) (time σ y) in
      let z : e + time σ a ≡ t + (1 + max (time σ x) (time σ y) + time σ a) = omega arith in
      let X = meetings σ x (t + 1) in
      let Y = meetings σ y (t + 1) in
      let A = meetings σ a e in
      ap (λ (l : List ℕ). e ∷ (X ++ (Y ++ l))) (meetings-⧺ a b e ∙ ap (λ (u : ℕ). A ++ meetings σ b u) z)
      ∙ ap (λ (l : List ℕ). e ∷ l)
      (sym (append_assoc X (Y ++ A) (meetings σ b (t + time σ (branch q x y a))) ∙ ap (λ (l : List ℕ). X ++ l) (append_assoc Y A (meetings σ b (t + time σ (branch q x y a))))))
  meetings-⧺ (while q n x a) b t =
      let m = n * (time σ x + 1) + 1 in
      meetings-⧺ a b (t + m) ∙ ap (λ (u : ℕ). meetings σ a (t + m) ++ meetings σ b u) (add_assoc t m (time σ a))
  meetings-⧺ (times q n x a) b t =
      let m = n * time σ x + 1 in
      meetings-⧺ a b (t + m) ∙ ap (λ (u : ℕ). meetings σ a (t + m) ++ meetings σ b u) (add_assoc t m (time σ a))

  -- each is an IF of three records or more
  pub few_meetings : (n : ℕ) (c : Block) (t : ℕ) → 3 * length (meetings σ c t) ≤ size (merge n c)
  few_meetings n nil t = omega arith
  few_meetings n (skip m b) t = few_meetings (n + m) b (t + m)
  few_meetings n (act p b) t = omega (arith, size_waiting n (act p (merge 0 b)), few_meetings 0 b (t + ticks σ p))
  few_meetings n (branch q a d b) t =
      let e = t + 1 + max (time σ a) (time σ d) in
      let A = meetings σ a (t + 1) in
      let D = meetings σ d (t + 1) in
      omega (
        arith,
        size_waiting n (branch q (merge 0 a) (merge 0 d) (merge 0 b)),
        few_meetings 0 a (t + 1),
        few_meetings 0 d (t + 1),
        few_meetings 0 b e,
        length-append A (D ++ meetings σ b e),
        length-append D (meetings σ b e),
      )
  few_meetings n (while q m a b) t = omega (arith, size_waiting n (while q m (merge 0 a) (merge 0 b)), few_meetings 0 b (t + (m * (time σ a + 1) + 1)))
  few_meetings n (times q m a b) t = omega (arith, size_waiting n (times q m (merge 0 a) (merge 0 b)), few_meetings 0 b (t + (m * time σ a + 1)))

  -- BLOCKS WITH NO IF

  plain-⧺ : (a b : Block) (t : ℕ) → ((u : ℕ) → meetings σ a u ≡ []) → ((u : ℕ) → meetings σ b u ≡ []) → meetings σ (a ⧺ b) t ≡ []
  plain-⧺ a b t p q = meetings-⧺ a b t ∙ ap₂ ◌++◌ (p t) (q (t + time σ a))

  plain_commands : (t u : ℕ) → meetings σ (commands σ t) u ≡ []
  plain_commands t u =
      either (λ (b : Block). meetings σ b u ≡ []) (eqb (t % σ.window) 0) _ nil
      (either (λ (b : Block). meetings σ b (u + σ.beat) ≡ []) (eqb (t % round σ) 0) (act (save 0) nil) nil refl refl) refl

  pub plain_before : (t d u : ℕ) → meetings σ (before σ t d) u ≡ []
  unfolding before
  plain_before t d u =
      let v = t + time σ (commands σ t) in
      plain-⧺ (commands σ t) _ u (plain_commands t)
      (λ w. either (λ (b : Block). meetings σ b w ≡ []) (ltb (left σ v) d) _ nil (plain_commands (v + left σ v) (w + left σ v)) refl)

  -- a step, and what stands before it
  pub plain_step : (d : ℕ) (p : Act) (t : ℕ) → meetings σ (before σ t d ⧺ act p nil) t ≡ []
  plain_step d p t = plain-⧺ (before σ t d) (act p nil) t (plain_before t d) (λ u. refl)

  plain_idle : (t u : ℕ) → meetings σ (idle σ t) u ≡ []
  plain_idle t u = plain-⧺ (before σ t 1) (skip 1 nil) u (plain_before t 1) (λ w. refl)

  pub plain_idles : (n t u : ℕ) → meetings σ (idles σ n t) u ≡ []
  plain_idles zero t u = refl
  plain_idles (suc n) t u = plain-⧺ (idle σ t) (idles σ n (t + time σ (idle σ t))) u (plain_idle t) (plain_idles n (t + time σ (idle σ t)))

  -- ticks of SKIP, and a CHECK
  pub plain_checked : (k : ℕ) (q : Test) (t : ℕ) → meetings σ (checked σ k q t) t ≡ []
  plain_checked k q t =
      let u = t + time σ (idles σ k t) in
      plain-⧺ (idles σ k t) (before σ u 1 ⧺ act (check q) nil) t (plain_idles k t) (λ v. plain-⧺ (before σ u 1) (act (check q) nil) v (plain_before u 1) (λ w. refl))

  pub plain_fill : (n t e u : ℕ) → meetings σ (fill σ n t e) u ≡ []
  plain_fill zero t e u = refl
  plain_fill (suc n) t e u =
      either (λ (b : Block). meetings σ b u ≡ []) (ltb t e) _ nil
      (plain-⧺ (idle σ t) (fill σ n (t + time σ (idle σ t)) e) u (plain_idle t) (plain_fill n (t + time σ (idle σ t)) e)) refl

-- NOTING

module _ {σ : Settings} where
  pub noted_plain : {c : Block} {t k : ℕ} {table : List ℕ} → k ≤ 1821 → meetings σ c t ≡ [] → Noted σ c t k k table table
  noted_plain {c} {t} {k} {table} few e = record {
    next = omega (arith, ap length e);
    notes = subst (λ (ms : List ℕ). Notes ms k table table) (sym e) (notes_none k table);
  }

  pub noted-⧺ : (a b : Block) {t u k m n : ℕ} {old mid new : List ℕ} → k ≤ 1821 → u ≡ t + time σ a → Noted σ a t k m old mid → Noted σ b u m n mid new
      → Noted σ (a ⧺ b) t k n old new
  noted-⧺ a b {t} {u} {k} {m} {n} {old} {mid} {new} few e A B =
      let z : meetings σ (a ⧺ b) t ≡ meetings σ a t ++ meetings σ b u = meetings-⧺ σ a b t ∙ ap (λ (v : ℕ). meetings σ a t ++ meetings σ b v) (sym e) in
      record {
        next = omega (arith, A.next, B.next, ap length z, length-append (meetings σ a t) (meetings σ b u));
        notes = subst (λ (ms : List ℕ). Notes ms k old new) (sym z) (notes-++ few (meetings σ a t) (meetings σ b u) A.next A.notes B.notes);
      }
