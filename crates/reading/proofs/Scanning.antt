-- The scan at a record by its outcome, along the records of a file, and of the file.
use Prim.Native.Nat.{ℕ, suc, ◌+◌, ◌*◌, ◌-◌, ◌/◌, ◌%◌, ◌≤◌, ◌<◌}
use native.Mathlib.Omega.{arith}
use mathlib.Core.Path.{◌≡◌, refl, sym, ap, subst, ◌∙◌}
use mathlib.Core.Bool.{true, false, not, or-true}
use mathlib.Core.List.{List, [], ◌∷◌}
use borrow.Author.Tests.{lt-ltb, le-ltb, eq-eqb, ne_eqb}
use lib.{Dec.eqb, ListN.length}
use Rattle.model.specs.declared.{Form.Form, Refusal.Refusal}
use Rattle.model.specs.declared.Form.TheVariants.{Task, Equalised, Laid}
use Rattle.model.specs.Records.{Rec, record_at, first_records, records}
use Rattle.model.specs.Refusals.{Open, Nesting, misplaced, inside, nest, max_depth, max_records, kind_fits, fields_fit, Fault, sound, faulty, deeper, scan, fault}
use Rattle.model.specs.Replies.{unless}
use Rattle.laws.proofs.Bytes.{records_at, records_at_suc, records_at_is}
use Rattle.records.specs.declared.Record.{Record}
use Rattle.records.specs.Records.{record_of}
use Rattle.reading.specs.Nesting.{bits, blocks, nested}
use Rattle.reading.specs.Scanning.{Scans, ScansRecords, TurnsTo, Turns}
use Rattle.reading.specs.declared.nesting.Blocks.{Blocks}
use Rattle.std.specs.Prelude.{None, Some, Result, Ok, Err}
use Rattle.reading.proofs.OpenBlocks.{two, depth_is, waiting_is, bits_small}

-- AT A RECORD

-- what the open blocks after it decide
misplaced_faults : (n : Nesting) → None ≡ nested n → (d i : ℕ) (go : List Open → Fault) → deeper d i n go ≡ faulty 4 i
misplaced_faults misplaced h d i go = refl
misplaced_faults (inside os) h d i go = let z : ◌≡◌ {A = ℕ} 0 1 = cc in absurd (omega arith)

deep_faults : (b : Blocks) (n : Nesting) → Some b ≡ nested n → (d i : ℕ) (go : List Open → Fault) → d < b.depth → deeper d i n go ≡ faulty 5 i
deep_faults b misplaced h d i go l = let z : ◌≡◌ {A = ℕ} 0 1 = cc in absurd (omega arith)
deep_faults b (inside os) h d i go l =
    let e : b ≡ blocks os = cc in
    rw (lt-ltb d (length os) (omega (arith, depth_is b os e)))

-- the open blocks that the scan goes on with
record Onward (b : Blocks) (d : ℕ) (n : Nesting) : Type 0 where
  after : List Open
  held : b ≡ blocks after
  shallow : length after ≤ d
  goes : (i : ℕ) (go : List Open → Fault) → deeper d i n go ≡ go after

onward : (b : Blocks) (n : Nesting) → Some b ≡ nested n → (d : ℕ) → b.depth ≤ d → Onward b d n
onward b misplaced h d l = let z : ◌≡◌ {A = ℕ} 0 1 = cc in absurd (omega arith)
onward b (inside os) h d l =
    let e : b ≡ blocks os = cc in
    let small : length os ≤ d = omega (arith, depth_is b os e) in
    record { after = os; held = e; shallow = small; goes = λ i go. rw (le-ltb d (length os) small) }

passes : (f : Form) (i : ℕ) (os : List Open) (r : Rec) (rs : List Rec) → not (kind_fits f r.kind) ≡ false → not (fields_fit r) ≡ false
    → scan f i os (r ∷ rs) ≡ deeper (max_depth f) i (nest r.kind os) (λ next. scan f (i + 1) next rs)
unfolding scan
passes f i os r rs k x = rw (k, x)

module _ {f : Form} {r : Record} {i : ℕ} {b : Blocks} where
  pub kind_refused : not (kind_fits f r.kind) ≡ true → Turns f r i b (Err (Refusal.BadKind i))
  unfolding scan
  kind_refused k = record { to = λ os e rs next. rw k }

  module _ (k : not (kind_fits f r.kind) ≡ false) where
    pub field_refused : not (fields_fit (record_of r)) ≡ true → Turns f r i b (Err (Refusal.BadField i))
    unfolding scan
    field_refused x = record { to = λ os e rs next. rw (k, x) }

    module _ (x : not (fields_fit (record_of r)) ≡ false) where
      pub structure_refused : ((os : List Open) → b ≡ blocks os → None ≡ nested (nest r.kind os)) → Turns f r i b (Err (Refusal.BadStructure i))
      structure_refused n = record {
        to = λ os e rs next.
            rw (passes f i os (record_of r) rs k x, misplaced_faults (nest r.kind os) (n os e) (max_depth f) i (λ after. scan f (i + 1) after rs));
      }

      module _ {b' : Blocks} (n : (os : List Open) → b ≡ blocks os → Some b' ≡ nested (nest r.kind os)) where
        pub deep_refused : max_depth f < b'.depth → Turns f r i b (Err (Refusal.TooDeep i))
        deep_refused l = record {
          to = λ os e rs next.
              rw (passes f i os (record_of r) rs k x, deep_faults b' (nest r.kind os) (n os e) (max_depth f) i (λ after. scan f (i + 1) after rs) l);
        }

        pub goes_on : b'.depth ≤ max_depth f → Turns f r i b (Ok b')
        goes_on l = record {
          to = λ os e.
              let o = onward b' (nest r.kind os) (n os e) (max_depth f) l in
              (o.after, o.held, o.shallow, λ rs. passes f i os (record_of r) rs k x ∙ o.goes i (λ after. scan f (i + 1) after rs));
        }

-- ALONG THE RECORDS

pub deepest : (f : Form) → max_depth f ≤ 16
deepest Task = omega arith
deepest Equalised = omega arith
deepest Laid = omega arith

-- of n records of s, the scan has passed i with the blocks b open, and what is left decides
pub record Left (f : Form) (s : List ℕ) (n i : ℕ) (b : Blocks) : Type 0 where
  pub os : List Open
  pub held : b ≡ blocks os
  pub shallow : length os ≤ max_depth f
  pub low : i ≤ n
  pub count : n ≡ length s / 12
  pub same : scan f 0 [] (records s) ≡ scan f i os (records_at s i (n - i))

pub left_start : (f : Form) (s : List ℕ) → Left f s (length s / 12) 0 (two 0 0)
unfolding bits
left_start f s =
    let m : length s / 12 ≡ length s / 12 - 0 = omega arith in
    record { os = []; held = refl; shallow = omega arith; low = omega arith; count = refl; same = ap (scan f 0 []) (records_at_is s ∙ ap (records_at s 0) m) }

-- at the end
all_closed : (f : Form) (n : ℕ) (os : List Open) → length os ≡ 0 → scan f n os [] ≡ sound
unfolding scan
all_closed f n [] h = refl
all_closed f n (o ∷ os) h = absurd (omega arith)

unclosed : (f : Form) (n : ℕ) (os : List Open) → 0 < length os → scan f n os [] ≡ faulty 4 n
unfolding scan
unclosed f n [] h = absurd (omega arith)
unclosed f n (o ∷ os) h = refl

module _ {f : Form} {s : List ℕ} {n i : ℕ} {b : Blocks} (v : Left f s n i b) where
  pub left_small : (b.depth < 17) × (b.waiting < 65536)
  left_small =
      let l : length v.os ≤ 16 = omega (arith, v.shallow, deepest f) in
      (omega (arith, depth_is b v.os v.held), omega (arith, waiting_is b v.os v.held, bits_small v.os l))

  -- a further record
  module _ {r : Record} {t : Result Blocks Refusal} (l : i < n) (e : record_of r ≡ record_at s i) (turns : Turns f r i b t) where
    -- the records after it
    others : List Rec
    others = records_at s (i + 1) (n - (i + 1))

    here : scan f 0 [] (records s) ≡ scan f i v.os (record_of r ∷ others)
    unfolding others
    here =
        let m : n - i ≡ suc (n - (i + 1)) = omega arith in
        v.same ∙ ap (λ (k : ℕ). scan f i v.os (records_at s i k)) m
        ∙ ap (scan f i v.os) (records_at_suc s i (n - (i + 1)) ∙ ap (λ (x : Rec). x ∷ others) (sym e))

    turned : {u : Result Blocks Refusal} → t ≡ u → TurnsTo f (record_of r) i v.os u
    turned h = subst (TurnsTo f (record_of r) i v.os) h (turns.to v.os v.held)

    pub left_refused : {x : Refusal} → t ≡ Err x → ScansRecords f s (Err x)
    left_refused h = record { reply = λ next. turned h others next ∙ ap (λ (y : Fault). unless y next) (sym here) }

    pub left_next : {b' : Blocks} → t ≡ Ok b' → Left f s n (i + 1) b'
    unfolding others
    left_next h =
        let o = turned h in
        record { os = o.0; held = o.1; shallow = o.2; low = omega arith; count = v.count; same = here ∙ o.3 others }

  -- no further record
  module _ (l : n ≤ i) where
    ended : scan f 0 [] (records s) ≡ scan f n v.os []
    unfolding first_records
    ended =
        let m : n - i ≡ 0 = omega arith in
        let k : i ≡ n = omega (arith, v.low) in
        v.same ∙ ap (λ (x : ℕ). scan f i v.os (records_at s i x)) m ∙ ap (λ (x : ℕ). scan f x v.os []) k

    pub left_sound : b.depth ≡ 0 → ScansRecords f s (Ok tt)
    left_sound d = record { reply = λ next. ap (λ (y : Fault). unless y next) (sym (ended ∙ all_closed f n v.os (omega (arith, depth_is b v.os v.held)))) }

    pub left_open : 0 < b.depth → ScansRecords f s (Err (Refusal.BadStructure n))
    left_open d = record { reply = λ next. ap (λ (y : Fault). unless y next) (sym (ended ∙ unclosed f n v.os (omega (arith, depth_is b v.os v.held)))) }

-- THE FILE

pub most_records : (f : Form) → max_records f ≤ 5461
most_records Task = omega arith
most_records Equalised = omega arith
most_records Laid = omega arith

module _ {f : Form} {s : List ℕ} where
  pub uneven_refused : (length s % 12 ≡ 0 → ⊥) → Scans f s (Err (Refusal.BadLength (length s)))
  unfolding fault
  uneven_refused h = record { reply = λ next. rw (ne_eqb (length s % 12) 0 h) }

  pub long_refused : 12 * max_records f < length s → Scans f s (Err (Refusal.BadLength (length s)))
  unfolding fault
  long_refused l = record { reply = λ next. rw (lt-ltb (12 * max_records f) (length s) l, or-true (not (eqb (length s % 12) 0))) }

  pub whole_scanned : {r : Result (Unit {0}) Refusal} → length s % 12 ≡ 0 → length s ≤ 12 * max_records f → ScansRecords f s r → Scans f s r
  unfolding fault
  whole_scanned h l p = record { reply = λ next. rw (eq-eqb (length s % 12) 0 h, le-ltb (12 * max_records f) (length s) l) (p.reply next) }
