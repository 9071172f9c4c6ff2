-- Pieces of text one after the other, and how long they can be.
use Prim.Native.Nat.{ℕ, ◌+◌, ◌≤◌, ◌<◌}
use native.Mathlib.{Numerals.add-one, Omega.arith}
use mathlib.Core.Path.{◌≡◌, sym, ap, subst, ◌∙◌}
use mathlib.Core.Logic.{◌≢◌}
use mathlib.Core.List.{List, [], ◌∷◌, ◌++◌, append_assoc, append-nil}
use lib.ListN.{length, take, drop, get_or, length-append}
use lib.Seq.{sets, take-suc}
use borrow.{Author.Tests.ne_eqb, Rule.Slice.PartMut.put_mid}
use Rattle.model.specs.Listing.{ascii, name, decimal, spaced}
use Rattle.records.proofs.Stores.{stored_on}
use Rattle.std.proofs.Common.{drop-drop}
use Rattle.std.proofs.lemmas.List.Edits.{sets-eq}
use Rattle.text.specs.Pieces.{Put, PutWithin}
use Rattle.text.specs.declared.Page.{Page}

-- copied into the middle of a page
pub copied : (a old : List ℕ) (at k : ℕ) {ys : List ℕ} → at + length a ≤ length old → k ≡ length a → ys ≡ a → put_mid at k old ys ≡ sets old at a
copied a old at k h n e = rw (e, n, drop-drop) (sym (sets-eq a old at h ∙ append_assoc (take at old) a (drop (at + length a) old)))

pub put_same : {a b : List ℕ} {old new : Page} → a ≡ b → Put a old new → Put b old new
put_same {old = old} {new = new} e p = subst (λ (t : List ℕ). Put t old new) e p

-- one piece after another
pub put_then : {a b : List ℕ} {old mid new : Page} → Put a old mid → Put b mid new → Put (a ++ b) old new
put_then {a} {b} {old} p q = record {
  page = stored_on old.bytes.now old.len a b p.page (sym p.ends) q.page;
  ends = omega (arith, p.ends, q.ends, length-append a b);
  same_reference = q.same_reference ∙ p.same_reference;
  same_length = q.same_length ∙ p.same_length;
}

-- PIECES OF AT MOST SO MANY BYTES

pub within : {n : ℕ} {a : List ℕ} {old new : Page} → Put a old new → length a ≤ n → PutWithin n a old new
within p h = record { put = p; short = h }

pub within_then : {m n : ℕ} {a b : List ℕ} {old mid new : Page} → PutWithin m a old mid → PutWithin n b mid new → PutWithin (m + n) (a ++ b) old new
within_then {m} {n} {a} {b} p q = within (put_then p.put q.put) (omega (arith, p.short, q.short, length-append a b))

pub within_same : {m n : ℕ} {a b : List ℕ} {old new : Page} → a ≡ b → m ≤ n → PutWithin m a old new → PutWithin n b old new
within_same {n = n} e h p = within (put_same e p.put) (subst (λ t. length t ≤ n) e (omega (arith, p.short)))

-- NUMBERS AND NAMES

spaced_last : (ns : List ℕ) (n : ℕ) → spaced (ns ++ n ∷ []) ≡ spaced ns ++ ascii " " ++ decimal n
spaced_last [] n = append-nil (ascii " " ++ decimal n)
spaced_last (m ∷ ns) n = ap (λ (t : List ℕ). (ascii " " ++ decimal m) ++ t) (spaced_last ns n) ∙ simp append_assoc

-- one number more
pub spaced_next : (ns : List ℕ) (i : ℕ) → i < length ns → spaced (take (i + 1) ns) ≡ spaced (take i ns) ++ ascii " " ++ decimal (get_or ns i 0)
spaced_next ns i h = ap (λ (k : ℕ). spaced (take k ns)) (add-one i) ∙ ap spaced (take-suc ns i 0 h) ∙ spaced_last (take i ns) (get_or ns i 0)

-- a kind that has no other name
pub save_is : (k : ℕ) → k ≢ 1 → k ≢ 2 → k ≢ 3 → k ≢ 4 → k ≢ 5 → k ≢ 6 → k ≢ 8 → k ≢ 10 → k ≢ 11 → ascii "SAVE" ≡ ascii (name k)
save_is k e1 e2 e3 e4 e5 e6 e8 e10 e11 =
    simp (ne_eqb k 1 e1, ne_eqb k 2 e2, ne_eqb k 3 e3, ne_eqb k 4 e4, ne_eqb k 5 e5, ne_eqb k 6 e6, ne_eqb k 8 e8, ne_eqb k 10 e10, ne_eqb k 11 e11)
