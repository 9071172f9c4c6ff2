-- What is printed, by the answer and the buffers that listing a task leaves: the lines by index, and each of them.
use Prim.Native.Nat.{ℕ, zero, suc, ◌+◌, ◌/◌, ◌≤◌, ◌<◌}
use native.Mathlib.Omega.{arith}
use mathlib.Core.Path.{◌≡◌, refl, ap, ap₂, sym, subst, ◌∙◌}
use mathlib.Core.List.{List, [], ◌∷◌, ◌++◌}
use lib.{ListN.length, ListN.get_or, ListN.drop, Seq.length-sets, Seq.drop-cons}
use Rattle.std.specs.Prelude.{Some}
use Rattle.model.specs.declared.{Line.Line, Refusal.Refusal}
use Rattle.model.specs.{Settings.settings_of, Trees.Block, Trees.linearise, Limits.file_length, Replies.prepare_reply, Replies.prepare_out}
use Rattle.model.specs.Records.{Rec, record_at, first_records, over}
use Rattle.model.specs.Answers.{finished, row, refusal}
use Rattle.model.specs.Listing.{line_of, start_ticks, lines_of, laid_from, list_starts, line_at, listed, turned_down, printed}
use Rattle.laws.proofs.{Bytes.records_at, Bytes.records_at_suc, Trees.length_linearise}
use Rattle.listing.specs.Lines.{lines_in}
use Rattle.listing.proofs.LineLaws.{line_there}
use Rattle.listing.proofs.Listings.{accepted, count, total, ticks_count, table_filled, records_there, laid_length}

-- LINES BY INDEX

no_records : (ts : List ℕ) → lines_of ts [] ≡ []
no_records [] = refl
no_records (t ∷ ts) = refl

by_index : (laid table : List ℕ) (n i : ℕ) → i + n ≤ length table → lines_in laid table i n ≡ lines_of (drop i table) (records_at laid i n)
unfolding first_records
by_index laid table zero i h = sym (no_records (drop i table))
by_index laid table (suc n) i h =
    let k : i + 1 ≡ suc i = omega arith in
    let first = drop-cons table i 0 (omega arith) ∙ ap (λ (j : ℕ). get_or table i 0 ∷ drop j table) (sym k) in
    ap (λ (ls : List Line). line_of (get_or table i 0) (record_at laid i) ∷ ls) (by_index laid table n (i + 1) (omega arith))
    ∙ ap₂ lines_of (sym first) (sym (records_at_suc laid i n))

-- ticks after those of the records show nowhere
no_more : (ts us : List ℕ) (rs : List Rec) → length rs ≤ length ts → lines_of (ts ++ us) rs ≡ lines_of ts rs
no_more ts us [] h = no_records (ts ++ us) ∙ sym (no_records ts)
no_more [] us (r ∷ rs) h = absurd (omega arith)
no_more (t ∷ ts) us (r ∷ rs) h = ap (λ (ls : List Line). line_of t r ∷ ls) (no_more ts us rs (omega arith))

-- A LISTING

-- n bytes of a laid file and the starts of its records are in the buffers, and what is printed is their lines and the total t
pub record Listing (s task laid table : List ℕ) (n t : ℕ) : Type 0 where
  pub right : printed s task ≡ listed (lines_in laid table 0 (n / 12)) t
  pub few : n / 12 ≤ 5461
  pub inside : n ≤ 65532
  pub laid_room_is : length laid ≡ 65532
  pub table_room : length table ≡ 5461
  pub shown : (i : ℕ) → i < n / 12 → line_at laid table i ≡ Some (line_of (get_or table i 0) (record_at laid i))

module _ (s task laid table : List ℕ) {n t : ℕ} (h : length laid ≡ 65532) (k : length table ≡ 5461)
    (e : prepare_reply s task file_length ≡ finished (n ∷ t ∷ [])) where
  abbrev tree : Block
  tree = laid_from s task

  abbrev ticks : List ℕ
  ticks = start_ticks (settings_of s) tree 0

  table_there : list_starts s task table ≡ over ticks table
  unfolding list_starts
  table_there = rw e

  table_length : length (list_starts s task table) ≡ 5461
  table_length = ap length (sym (table_filled s task e table k)) ∙ length-sets table 0 ticks ∙ k

  lines_are : lines_in (prepare_out s task laid) (list_starts s task table) 0 (n / 12) ≡ lines_of ticks (linearise tree)
  lines_are =
      let records : records_at (prepare_out s task laid) 0 (n / 12) ≡ linearise tree =
      ap (records_at (prepare_out s task laid) 0) (count s task e) ∙ records_there s task e laid h in
      by_index (prepare_out s task laid) (list_starts s task table) (n / 12) 0 (omega (arith, table_length, count s task e, (accepted s task e).has_room.few))
      ∙ ap₂ lines_of table_there records
      ∙ no_more ticks (drop (length ticks) table) (linearise tree) (omega (arith, ticks_count s task e, length_linearise tree))

  printed_is : printed s task ≡ listed (lines_of ticks (linearise tree)) t
  unfolding printed
  printed_is = rw (e, total s task e)

  pub printed_listed : Listing s task (prepare_out s task laid) (list_starts s task table) n t
  printed_listed = record {
    right = printed_is ∙ ap (λ (ls : List Line). listed ls t) (sym lines_are);
    few = omega (arith, count s task e, (accepted s task e).has_room.few);
    inside = omega (arith, count s task e, (accepted s task e).has_room.few, ap (λ (xs : List ℕ). get_or xs 0 0) (accepted s task e).answers);
    laid_room_is = laid_length s task e laid h;
    table_room = table_length;
    shown = λ i l.
        let c = count s task e in
        let few = (accepted s task e).has_room.few in
        let in_file : i < length (prepare_out s task laid) / 12 = omega (arith, l, c, few, laid_length s task e laid h) in
        let in_table : i < length (list_starts s task table) = omega (arith, l, c, few, table_length) in
        sym (line_there (prepare_out s task laid) (list_starts s task table) i in_file in_table);
  }

-- the same of the buffers that `list_task` leaves
pub listing_written : (s task laid table : List ℕ) {laid' table' : List ℕ} {n t : ℕ} → length laid ≡ 65532 → length table ≡ 5461
    → finished (n ∷ t ∷ []) ≡ prepare_reply s task file_length → laid' ≡ prepare_out s task laid → table' ≡ list_starts s task table
    → Listing s task laid' table' n t
listing_written s task laid table {laid'} {table'} {n} {t} h k e p q =
    subst (λ (u : List ℕ). Listing s task u table' n t) (sym p)
    (subst (λ (w : List ℕ). Listing s task (prepare_out s task laid) w n t) (sym q) (printed_listed s task laid table h k (sym e)))

-- A REFUSAL

pub printed_refused : (s task : List ℕ) (x : Refusal) → refusal x ≡ prepare_reply s task file_length → printed s task ≡ turned_down (row x).0
unfolding printed
printed_refused s task x e = rw (← e)
