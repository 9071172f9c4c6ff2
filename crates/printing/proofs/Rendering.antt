-- The lines of the records one by one, and the text of what is printed.
use Prim.Native.Nat.{ℕ, zero, suc, ◌+◌, ◌/◌, ◌≤◌, ◌<◌}
use native.Mathlib.{Nat.add-zero, Nat.zero-add, Numerals.add-one, Omega.arith}
use mathlib.Core.Path.{◌≡◌, refl, ap, sym, ◌∙◌}
use mathlib.Core.List.{List, [], ◌∷◌, ◌++◌, append_assoc, append-nil}
use lib.ListN.{length, get_or, replicate, length-replicate}
use Rattle.std.specs.Prelude.{Option, Some, Ok}
use Rattle.model.specs.declared.{Line.Line, Refusal.Refusal, LaidOut.LaidOut}
use Rattle.model.specs.{Records.record_at, Records.over, Answers.row, Answers.refusal, Answers.laid_out, Limits.file_length}
use Rattle.model.specs.{Replies.prepare_reply, Replies.prepare_out}
use Rattle.model.specs.Listing.{line_of, line_at, list_starts, ascii, decimal, line_text, lines_text, listed, turned_down, printed, printed_text}
use Rattle.listing.proofs.{LineLaws.line_there, Printed.Listing, Printed.listing_written, Printed.printed_refused}
use Rattle.listing.specs.Lines.{lines_in}
use Rattle.records.proofs.Stores.{stored_over}
use Rattle.text.specs.{Pieces.PutWithin, declared.Page.Page}
use Rattle.text.proofs.Pieces.{put_same}

-- LINES

abbrev pub line_in : List ℕ → List ℕ → ℕ → Line
line_in laid table i = line_of (get_or table i 0) (record_at laid i)

lines_last : (ls : List Line) (l : Line) → lines_text (ls ++ l ∷ []) ≡ lines_text ls ++ line_text l
lines_last [] l = append-nil (line_text l)
lines_last (m ∷ ls) l = ap (λ (t : List ℕ). line_text m ++ t) (lines_last ls l) ∙ sym (append_assoc (line_text m) (lines_text ls) (line_text l))

one_more : (laid table : List ℕ) (n i : ℕ) → lines_in laid table i (suc n) ≡ lines_in laid table i n ++ line_in laid table (i + n) ∷ []
one_more laid table zero i = ap (λ (j : ℕ). line_in laid table j ∷ []) (sym (add-zero i))
one_more laid table (suc n) i =
    let e : i + 1 + n ≡ i + suc n = omega arith in
    ap (λ (ls : List Line). line_in laid table i ∷ ls)
    (one_more laid table n (i + 1) ∙ ap (λ (j : ℕ). lines_in laid table (i + 1) n ++ line_in laid table j ∷ []) e)

module _ (laid table : List ℕ) (i : ℕ) where
  pub lines_next : lines_text (lines_in laid table 0 i) ++ line_text (line_in laid table i) ≡ lines_text (lines_in laid table 0 (i + 1))
  lines_next =
      sym (ap (λ (k : ℕ). lines_text (lines_in laid table 0 k)) (add-one i)
      ∙ ap lines_text (one_more laid table i 0)
      ∙ ap (λ (j : ℕ). lines_text (lines_in laid table 0 i ++ line_in laid table j ∷ [])) (zero-add i)
      ∙ lines_last (lines_in laid table 0 i) (line_in laid table i))

  module _ {r : Option Line} (e : r ≡ line_at laid table i) (h : i < length laid / 12) (k : i < length table) where
    pub there : r ≡ Some (line_in laid table i)
    there = e ∙ sym (line_there laid table i h k)

    pub shown_line : {l : Line} → r ≡ Some l → l ≡ line_in laid table i
    shown_line {l} f = let g : Some l ≡ Some (line_in laid table i) = sym f ∙ there in cc

-- TEXTS

pub refused_text : {n k : ℕ} → k ≡ n → ascii "refused " ++ decimal k ++ ascii "\n" ≡ printed_text (turned_down n)
unfolding printed_text
refused_text e = ap (λ (m : ℕ). ascii "refused " ++ decimal m ++ ascii "\n") e

pub listed_text : (ls : List Line) (t : ℕ) → lines_text ls ++ decimal t ++ ascii " end\n" ≡ printed_text (listed ls t)
unfolding printed_text
listed_text ls t = refl

pub text_of_refusal : (s task : List ℕ) (x : Refusal) → refusal x ≡ prepare_reply s task file_length
    → printed_text (turned_down (row x).0) ≡ printed_text (printed s task)
text_of_refusal s task x f = ap printed_text (sym (printed_refused s task x f))

-- the buffers that `list_task` leaves, which were zeros
pub listed_in : (s task : List ℕ) {laid table : List ℕ} (d : LaidOut)
    → (laid_out (Ok d) ≡ prepare_reply s task file_length) × (laid ≡ prepare_out s task (replicate 65532 0)) × (table ≡ list_starts s task (replicate 5461 0))
    → Listing s task laid table d.bytes d.total
listed_in s task d p =
    listing_written s task (replicate 65532 0) (replicate 5461 0) (length-replicate {A = ℕ} 65532 0) (length-replicate {A = ℕ} 5461 0) p.0 p.1 p.2

-- THE WHOLE TEXT

-- put on an empty page
pub put_whole : {m : ℕ} {a out : List ℕ} {old new : Page} (text : List ℕ) → a ≡ text → old.len ≡ 0 → old.bytes.now ≡ out → m ≤ length out
    → PutWithin m a old new → (new.len ≡ length text) × (new.bytes.now ≡ over text out)
put_whole {a = a} {out} {old = old} text e z same h p =
    let q = put_same e p.put in
    let short : length text ≤ length out = omega (arith, h, p.short, ap length e) in
    (omega (arith, q.ends, z), q.page ∙ rw (z, same) (stored_over out text short))
