-- A file that passes the scan is the bytes of its tree, which stands in it, nests within the form's limit and has only that form's records.
use Prim.Native.Nat.{ℕ, zero, suc, ◌+◌, ◌*◌, ◌/◌, ◌%◌, ◌≤◌, ◌<◌, max}
use native.Mathlib.{Nat.add-zero, Nat.zero-add, Omega.arith}
use mathlib.Core.Path.{◌≡◌, refl, ap, sym, subst, ◌∙◌}
use mathlib.Core.Bool.{Bool, true, false, cond, not, ◌||◌}
use mathlib.Core.List.{List, [], ◌∷◌, ◌++◌, append_assoc, append-nil}
use lib.{Dec.eqb, Dec.ltb, ListN.length}
use borrow.Author.Tests.{eqb-true, ltb-false}
use Rattle.model.specs.declared.Form.{Form}
use Rattle.model.specs.Records.{Rec, IF, WHILE, TIMES, Bytes, kind_at, record_at, records, bytes}
use Rattle.model.specs.Trees.{Test, Act, Block, nil, skip, act, branch, while, times}
use Rattle.model.specs.Trees.{size, depth, test_rec, skip_rec, act_rec, else_rec, end_rec, linearise, tree_of, file_tree}
use Rattle.model.specs.Refusals.{max_records, max_depth, kind_fits, fields_fit, Open, first, second, loop, Nesting, misplaced, inside, nest}
use Rattle.model.specs.Refusals.{sound, faulty, deeper, scan, fault}
use Rattle.model.specs.Standing.{At, Fit, OfForm}
use Rattle.laws.proofs.Bytes.{bytes_records, length_records, records_at, records_at_suc, records_at_is}
use Rattle.laws.proofs.{Trees.length_linearise, Trees.tree_of_linearise, Stands.begins}
use Rattle.laws.proofs.Shapes.{by_act, Shape, is_skip, is_act, is_if, is_while, is_times, is_else, is_end, shape}

-- BLOCKS

-- such a block, which nests at most m deep inside n open blocks
record Inner (f : Form) (m n : ℕ) (b : Block) : Type 0 where
  of_form : OfForm f b
  shallow : depth b + n ≤ m

-- records that begin with such a block and the record that closes it
record Upto (f : Form) (m n : ℕ) (closer : Rec) (More : List Rec → Type 0) (rs : List Rec) : Type 0 where
  block : Block
  others : List Rec
  same : rs ≡ linearise block ++ closer ∷ others
  inner : Inner f m n block
  more : More others

-- records that close the open blocks and then end with the file
abbrev Parsed : Form → ℕ → List Open → List Rec → Type 0
Parsed f m [] rs = (b : Block) × (rs ≡ linearise b) × Inner f m 0 b
Parsed f m (first ∷ os) rs = Upto f m (suc (length os)) else_rec (Upto f m (suc (length os)) end_rec (Parsed f m os)) rs
Parsed f m (second ∷ os) rs = Upto f m (suc (length os)) end_rec (Parsed f m os) rs
Parsed f m (loop ∷ os) rs = Upto f m (suc (length os)) end_rec (Parsed f m os) rs

-- a statement put before the first block: its records are l
module _ (f : Form) (m : ℕ) (g : Block → Block) (l : List Rec) (flat : (b : Block) → linearise (g b) ≡ l ++ linearise b) where
  front_upto : (n : ℕ) (closer : Rec) (More : List Rec → Type 0) (rs : List Rec)
      → ((b : Block) → Inner f m n b → Inner f m n (g b)) → Upto f m n closer More rs → Upto f m n closer More (l ++ rs)
  front_upto n closer More rs keeps u = record {
    block = g u.block;
    others = u.others;
    same = ap (λ (x : List Rec). l ++ x) u.same ∙ sym (append_assoc l (linearise u.block) (closer ∷ u.others)) ∙ ap (λ (x : List Rec). x ++ closer ∷ u.others) (sym (flat u.block));
    inner = keeps u.block u.inner;
    more = u.more;
  }

  front : (os : List Open) (rs : List Rec) → ((b : Block) → Inner f m (length os) b → Inner f m (length os) (g b)) → Parsed f m os rs → Parsed f m os (l ++ rs)
  front [] rs keeps p = (g p.0, ap (λ (x : List Rec). l ++ x) p.1 ∙ sym (flat p.0), keeps p.0 p.2)
  front (first ∷ os) rs keeps p = front_upto (suc (length os)) else_rec (Upto f m (suc (length os)) end_rec (Parsed f m os)) rs keeps p
  front (second ∷ os) rs keeps p = front_upto (suc (length os)) end_rec (Parsed f m os) rs keeps p
  front (loop ∷ os) rs keeps p = front_upto (suc (length os)) end_rec (Parsed f m os) rs keeps p

-- the same open blocks
reopen : (f : Form) (m : ℕ) (os next : List Open) (rs : List Rec) → inside os ≡ inside next → Parsed f m next rs → Parsed f m os rs
reopen f m os next rs e p = let q : next ≡ os = cc in subst (λ (o : List Open). Parsed f m o rs) q p

pub nest_act : (p : Act) (os : List Open) → nest (act_rec p).kind os ≡ inside os
nest_act p os = by_act (λ k. nest k os ≡ inside os) refl refl refl refl refl refl p

-- an empty block
empty : (f : Form) (m n : ℕ) → n ≤ m → Inner f m n nil
empty f m n l = record { of_form = tt; shallow = omega arith }

-- WHAT EACH RECORD MAKES OF WHAT FOLLOWS IT

module _ (f : Form) (m : ℕ) (os : List Open) (rs : List Rec) where
  skip_turn : (n : ℕ) → Fit f (skip_rec n) → Parsed f m os rs → Parsed f m os (skip_rec n ∷ rs)
  unfolding linearise
  skip_turn n fit p = front f m (skip n) (skip_rec n ∷ []) (λ b. refl) os rs (λ b i. record { of_form = (fit, i.of_form); shallow = i.shallow }) p

  act_turn : (a : Act) → Fit f (act_rec a) → Parsed f m os rs → Parsed f m os (act_rec a ∷ rs)
  unfolding linearise
  act_turn a fit p = front f m (act a) (act_rec a ∷ []) (λ b. refl) os rs (λ b i. record { of_form = (fit, i.of_form); shallow = i.shallow }) p

  if_turn : (q : Test) → Fit f (test_rec IF q 0) → Parsed f m (first ∷ os) rs → Parsed f m os (test_rec IF q 0 ∷ rs)
  unfolding linearise
  if_turn q fit u =
      let a = u.block in
      let d = u.more.block in
      let l = test_rec IF q 0 ∷ (linearise a ++ else_rec ∷ (linearise d ++ end_rec ∷ [])) in
      let e : l ++ u.more.others ≡ test_rec IF q 0 ∷ rs = rw (u.same, u.more.same) (simp append_assoc) in
      subst (Parsed f m os) e
      (front f m (branch q a d) l (λ b. simp append_assoc) os u.more.others
      (λ b i. record {
        of_form = (fit, u.inner.of_form, u.more.inner.of_form, i.of_form);
        shallow = omega (arith, u.inner.shallow, u.more.inner.shallow, i.shallow);
      })
      u.more.more)

  -- a loop, g, that opens with the record r
  loop_turn : (g : Block → Block → Block) (r : Rec)
      → ((a b : Block) → linearise (g a b) ≡ r ∷ (linearise a ++ end_rec ∷ linearise b))
      → ((a b : Block) → depth (g a b) ≡ max (1 + depth a) (depth b))
      → ((a b : Block) → OfForm f a → OfForm f b → OfForm f (g a b))
      → Parsed f m (loop ∷ os) rs
      → Parsed f m os (r ∷ rs)
  loop_turn g r flat deep of u =
      let a = u.block in
      let l = r ∷ (linearise a ++ end_rec ∷ []) in
      let e : l ++ u.others ≡ r ∷ rs = rw u.same (simp append_assoc) in
      subst (Parsed f m os) e
      (front f m (g a) l (λ b. flat a b ∙ simp append_assoc) os u.others
      (λ b i. record { of_form = of a b u.inner.of_form i.of_form; shallow = omega (arith, deep a b, u.inner.shallow, i.shallow) })
      u.more)

  end_turn : length os + 1 ≤ m → Parsed f m os rs → Upto f m (suc (length os)) end_rec (Parsed f m os) (end_rec ∷ rs)
  unfolding linearise
  end_turn l p = record { block = nil; others = rs; same = refl; inner = empty f m (suc (length os)) (omega arith); more = p }

else_turn : (f : Form) (m : ℕ) (os next : List Open) (rs : List Rec) → length os ≤ m → nest 6 os ≡ inside next → Parsed f m next rs → Parsed f m os (else_rec ∷ rs)
unfolding linearise
else_turn f m [] next rs l e p = let z : ◌≡◌ {A = ℕ} 0 1 = cc in absurd (omega arith)
else_turn f m (first ∷ os) next rs l e p =
    record { block = nil; others = rs; same = refl; inner = empty f m (suc (length os)) l; more = reopen f m (second ∷ os) next rs e p }
else_turn f m (second ∷ os) next rs l e p = let z : ◌≡◌ {A = ℕ} 0 1 = cc in absurd (omega arith)
else_turn f m (loop ∷ os) next rs l e p = let z : ◌≡◌ {A = ℕ} 0 1 = cc in absurd (omega arith)

close_turn : (f : Form) (m : ℕ) (os next : List Open) (rs : List Rec) → length os ≤ m → nest 8 os ≡ inside next → Parsed f m next rs → Parsed f m os (end_rec ∷ rs)
close_turn f m [] next rs l e p = let z : ◌≡◌ {A = ℕ} 0 1 = cc in absurd (omega arith)
close_turn f m (first ∷ os) next rs l e p = let z : ◌≡◌ {A = ℕ} 0 1 = cc in absurd (omega arith)
close_turn f m (second ∷ os) next rs l e p = end_turn f m os rs (omega arith) (reopen f m os next rs e p)
close_turn f m (loop ∷ os) next rs l e p = end_turn f m os rs (omega arith) (reopen f m os next rs e p)

turn : (f : Form) (m : ℕ) (os next : List Open) (r : Rec) (rs : List Rec) → Shape r → Fit f r → length os ≤ m
    → nest r.kind os ≡ inside next → Parsed f m next rs → Parsed f m os (r ∷ rs)
unfolding linearise
turn f m os next r rs (is_skip n) fit l e p = skip_turn f m os rs n fit (reopen f m os next rs e p)
turn f m os next r rs (is_act a) fit l e p = act_turn f m os rs a fit (reopen f m os next rs (sym (nest_act a os) ∙ e) p)
turn f m os next r rs (is_if q) fit l e p = if_turn f m os rs q fit (reopen f m (first ∷ os) next rs e p)
turn f m os next r rs (is_while q n) fit l e p =
    loop_turn f m os rs (while q n) (test_rec WHILE q n) (λ a b. refl) (λ a b. refl) (λ a b x y. (fit, x, y))
    (reopen f m (loop ∷ os) next rs e p)
turn f m os next r rs (is_times q n) fit l e p =
    loop_turn f m os rs (times q n) (test_rec TIMES q n) (λ a b. refl) (λ a b. refl) (λ a b x y. (fit, x, y))
    (reopen f m (loop ∷ os) next rs e p)
turn f m os next r rs is_else fit l e p = else_turn f m os next rs l e p
turn f m os next r rs is_end fit l e p = close_turn f m os next rs l e p

-- THE SCAN

-- what a record that passes has shown
pub record Passed (f : Form) (i : ℕ) (os : List Open) (r : Rec) (rs : List Rec) : Type 0 where
  pub fit : Fit f r
  pub next : List Open
  pub nests : nest r.kind os ≡ inside next
  pub small : length next ≤ max_depth f
  pub after : scan f (i + 1) next rs ≡ sound

pub passed : (f : Form) (i : ℕ) (os : List Open) (r : Rec) (rs : List Rec) → scan f i os (r ∷ rs) ≡ sound → Passed f i os r rs
unfolding scan
passed f i os r rs e = by_kind (kind_fits f r.kind) refl (fields_fit r) refl (nest r.kind os) refl e
  where
    by_depth : kind_fits f r.kind ≡ true → fields_fit r ≡ true → (next : List Open) → nest r.kind os ≡ inside next
        → (o : Bool) → ltb (max_depth f) (length next) ≡ o → cond o (faulty 5 i) (scan f (i + 1) next rs) ≡ sound → Passed f i os r rs
    by_depth k x next n true t h = let z : ◌≡◌ {A = ℕ} 0 1 = cc in absurd (omega arith)
    by_depth k x next n false t h = record { fit = record { kind = k; fields = x }; next = next; nests = n; small = ltb-false (max_depth f) (length next) t; after = h }

    by_kind : (a : Bool) → kind_fits f r.kind ≡ a → (b : Bool) → fields_fit r ≡ b → (n : Nesting) → nest r.kind os ≡ n
        → cond (not a) (faulty 2 i) (cond (not b) (faulty 3 i) (deeper (max_depth f) i n (λ next. scan f (i + 1) next rs))) ≡ sound → Passed f i os r rs
    by_kind false k b x n t h = let z : ◌≡◌ {A = ℕ} 0 1 = cc in absurd (omega arith)
    by_kind true k false x n t h = let z : ◌≡◌ {A = ℕ} 0 1 = cc in absurd (omega arith)
    by_kind true k true x misplaced t h = let z : ◌≡◌ {A = ℕ} 0 1 = cc in absurd (omega arith)
    by_kind true k true x (inside next) t h = by_depth k x next t (ltb (max_depth f) (length next)) refl h

parsed : (f : Form) (i : ℕ) (os : List Open) (rs : List Rec) → length os ≤ max_depth f → scan f i os rs ≡ sound → Parsed f (max_depth f) os rs
unfolding scan linearise
parsed f i [] [] l e = (nil, refl, empty f (max_depth f) 0 (omega arith))
parsed f i (o ∷ os) [] l e = let z : ◌≡◌ {A = ℕ} 0 1 = cc in absurd (omega arith)
parsed f i os (r ∷ rs) l e =
    let p = passed f i os r rs e in
    turn f (max_depth f) os p.next r rs (shape f r p.fit) p.fit l p.nests (parsed f (i + 1) p.next rs p.small p.after)

-- THE FILE

-- the length is that of whole records, and of no more than the form takes
pub record Whole (f : Form) (s : List ℕ) : Type 0 where
  pub even : length s % 12 ≡ 0
  pub few : length s ≤ 12 * max_records f
  pub scanned : scan f 0 [] (records s) ≡ sound

pub whole : (f : Form) (s : List ℕ) → fault f s ≡ sound → Whole f s
unfolding fault
whole f s e = go (eqb (length s % 12) 0) refl (ltb (12 * max_records f) (length s)) refl e
  where
    go : (a : Bool) → eqb (length s % 12) 0 ≡ a → (b : Bool) → ltb (12 * max_records f) (length s) ≡ b
        → cond (not a || b) (faulty 1 (length s)) (scan f 0 [] (records s)) ≡ sound → Whole f s
    go false p b q h = let z : ◌≡◌ {A = ℕ} 0 1 = cc in absurd (omega arith)
    go true p true q h = let z : ◌≡◌ {A = ℕ} 0 1 = cc in absurd (omega arith)
    go true p false q h = record { even = eqb-true (length s % 12) 0 p; few = ltb-false (12 * max_records f) (length s) q; scanned = h }

-- b is the tree of a sound file s of form f
pub record Sound (f : Form) (s : List ℕ) (b : Block) : Type 0 where
  pub same : linearise b ≡ records s
  pub whole_records : length s ≡ 12 * size b
  pub stands : At s 0 b
  pub few : size b ≤ max_records f
  pub shallow : depth b ≤ max_depth f
  pub of_form : OfForm f b

pub sound_file : (f : Form) (s : List ℕ) → fault f s ≡ sound → Sound f s (file_tree s)
unfolding file_tree
sound_file f s e = subst (Sound f s) (sym (ap tree_of p.1 ∙ tree_of_linearise p.0)) sound_tree
  where
    w : Whole f s
    w = whole f s e

    p : Parsed f (max_depth f) [] (records s)
    p = parsed f 0 [] (records s) (omega arith) w.scanned

    n : length s / 12 ≡ size p.0
    n = sym (length_records s) ∙ ap length p.1 ∙ length_linearise p.0

    sound_tree : Sound f s p.0
    sound_tree = record {
      same = sym p.1;
      whole_records = omega (arith, w.even, n);
      stands = (begins s 0 (length s / 12) p.0 [] (sym (records_at_is s) ∙ p.1 ∙ sym (append-nil (linearise p.0)))).stands;
      few = omega (arith, w.few, w.even, n);
      shallow = omega (arith, p.2.shallow);
      of_form = p.2.of_form;
    }

-- the file is the bytes of its tree
pub sound_bytes : (f : Form) (s : List ℕ) → Bytes s → fault f s ≡ sound → bytes (linearise (file_tree s)) ≡ s
sound_bytes f s h e = rw (sound_file f s e).same (bytes_records s h (whole f s e).even)

-- every kind in it is one of the form
kinds : (f : Form) (s : List ℕ) (n i j : ℕ) (os : List Open) → scan f j os (records_at s i n) ≡ sound → (k : ℕ) → k < n → kind_fits f (kind_at s (i + k)) ≡ true
kinds f s zero i j os e k l = absurd (omega arith)
kinds f s (suc n) i j os e zero l =
    rw (add-zero i) (passed f j os (record_at s i) (records_at s (i + 1) n) (ap (scan f j os) (sym (records_at_suc s i n)) ∙ e)).fit.kind
kinds f s (suc n) i j os e (suc k) l =
    let p = passed f j os (record_at s i) (records_at s (i + 1) n) (ap (scan f j os) (sym (records_at_suc s i n)) ∙ e) in
    let m : i + suc k ≡ i + 1 + k = omega arith in
    rw m (kinds f s n (i + 1) (j + 1) p.next p.after k (omega arith))

pub sound_kind : (f : Form) (s : List ℕ) → fault f s ≡ sound → (k : ℕ) → k < length s / 12 → kind_fits f (kind_at s k) ≡ true
sound_kind f s e k l = rw (zero-add k) at (kinds f s (length s / 12) 0 0 [] (ap (scan f 0 []) (sym (records_at_is s)) ∙ (whole f s e).scanned) k l)
