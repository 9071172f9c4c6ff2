-- Records as bytes and bytes as records are inverse, and the record with an index is the one that stands there.
use Prim.Native.Nat.{ℕ, zero, suc, ◌+◌, ◌*◌, ◌/◌, ◌%◌, ◌≤◌, ◌<◌}
use native.Mathlib.{Nat.add-zero, Nat.add_assoc, Omega.arith}
use mathlib.Core.Path.{◌≡◌, refl, ap, ap₂, sym, ◌∙◌}
use mathlib.Core.List.{List, [], ◌∷◌, ◌++◌, append-nil}
use lib.ListN.{length, get_or, drop, length-drop}
use lib.Seq.{get_or-drop, drop-drop, drop-cons}
use Rattle.model.specs.Records.{Rec, Bytes, word_bytes, record_at, first_records, records, record_bytes, bytes}

pub word_back : (n : ℕ) → n % 256 + 256 * (n / 256 % 256) + 65536 * (n / 256 / 256 % 256) + 16777216 * (n / 256 / 256 / 256) ≡ n
word_back n = omega arith

pub length_bytes : (rs : List Rec) → length (bytes rs) ≡ 12 * length rs
unfolding bytes
length_bytes [] = refl
length_bytes (r ∷ rs) = omega (arith, length_bytes rs)

-- whatever stands after them
pub first_bytes : (rs : List Rec) (rest : List ℕ) → first_records (length rs) (bytes rs ++ rest) ≡ rs
unfolding bytes first_records
first_bytes [] rest = refl
first_bytes (r ∷ rs) rest = rw (word_back r.value, word_back r.count, first_bytes rs rest)

pub records_bytes : (rs : List Rec) → records (bytes rs) ≡ rs
unfolding records
records_bytes rs =
    let e : length (bytes rs) / 12 ≡ length rs = omega (arith, length_bytes rs) in
    rw (e, ← append-nil (bytes rs)) (first_bytes rs [])

-- a number's lowest byte, and what is above it
low : (a m : ℕ) → a < 256 → (a + 256 * m) % 256 ≡ a
low a m h = omega arith

high : (a m : ℕ) → a < 256 → (a + 256 * m) / 256 ≡ m
high a m h = omega arith

word_there : (a b c d : ℕ) → a < 256 → b < 256 → c < 256 → word_bytes (a + 256 * b + 65536 * c + 16777216 * d) ≡ a ∷ b ∷ c ∷ d ∷ []
word_there a b c d ha hb hc =
    let e : a + 256 * b + 65536 * c + 16777216 * d ≡ a + 256 * (b + 256 * (c + 256 * d)) = omega arith in
    rw (e, low a (b + 256 * (c + 256 * d)) ha, high a (b + 256 * (c + 256 * d)) ha, low b (c + 256 * d) hb, high b (c + 256 * d) hb, low c d hc, high c d hc)

-- the n numbers of a list from index j on
abbrev elements : List ℕ → ℕ → ℕ → List ℕ
elements s j zero = []
elements s j (suc n) = get_or s j 0 ∷ elements s (suc j) n

elements_drop : (s : List ℕ) (n j : ℕ) → j + n ≤ length s → elements s j n ++ drop (j + n) s ≡ drop j s
elements_drop s zero j l = rw (add-zero j)
elements_drop s (suc n) j l =
    let e : j + suc n ≡ suc j + n = omega arith in
    rw (e, elements_drop s n (suc j) (omega arith)) (sym (drop-cons s j 0 (omega arith)))

-- the bytes of the first record, and then the others
first_record : (s : List ℕ) → Bytes s → 12 ≤ length s → record_bytes (record_at s 0) ++ drop 12 s ≡ s
first_record s h l =
    ap₂
    (λ (u w : List ℕ). (get_or s 0 0 ∷ get_or s 1 0 ∷ get_or s 2 0 ∷ get_or s 3 0 ∷ (u ++ w)) ++ drop 12 s)
    (word_there (get_or s 4 0) (get_or s 5 0) (get_or s 6 0) (get_or s 7 0) (h 4) (h 5) (h 6))
    (word_there (get_or s 8 0) (get_or s 9 0) (get_or s 10 0) (get_or s 11 0) (h 8) (h 9) (h 10))
    ∙ elements_drop s 12 0 l

bytes_drop : (s : List ℕ) (n : ℕ) → Bytes s → Bytes (drop n s)
bytes_drop s n h i = rw (get_or-drop n s i 0) (h (n + i))

bytes_first : (n : ℕ) (s : List ℕ) → Bytes s → length s ≡ 12 * n → bytes (first_records n s) ≡ s
unfolding bytes first_records
bytes_first zero [] h e = refl
bytes_first zero (x ∷ s) h e = absurd (omega arith)
bytes_first (suc n) s h e =
    ap (λ (t : List ℕ). record_bytes (record_at s 0) ++ t) (bytes_first n (drop 12 s) (bytes_drop s 12 h) (omega (arith, length-drop 12 s)))
    ∙ first_record s h (omega arith)

pub bytes_records : (s : List ℕ) → Bytes s → length s % 12 ≡ 0 → bytes (records s) ≡ s
unfolding records
bytes_records s h e = bytes_first (length s / 12) s h (omega arith)

length_first : (n : ℕ) (s : List ℕ) → length (first_records n s) ≡ n
unfolding first_records
length_first zero s = refl
length_first (suc n) s = ap suc (length_first n (drop 12 s))

pub length_records : (s : List ℕ) → length (records s) ≡ length s / 12
unfolding records
length_records s = length_first (length s / 12) s

-- BY INDEX

-- n records from index i on
abbrev pub records_at : List ℕ → ℕ → ℕ → List Rec
records_at s i n = first_records n (drop (12 * i) s)

record_drop : (s : List ℕ) (i : ℕ) → record_at (drop (12 * i) s) 0 ≡ record_at s i
record_drop s i = simp (get_or-drop, add-zero, add_assoc)

pub records_at_suc : (s : List ℕ) (i n : ℕ) → records_at s i (suc n) ≡ record_at s i ∷ records_at s (i + 1) n
unfolding first_records
records_at_suc s i n =
    let e : 12 * i + 12 ≡ 12 * (i + 1) = omega arith in
    ap₂ (λ (r : Rec) (t : List ℕ). r ∷ first_records n t) (record_drop s i) (drop-drop 12 (12 * i) s ∙ ap (λ (m : ℕ). drop m s) e)

pub records_at_is : (s : List ℕ) → records s ≡ records_at s 0 (length s / 12)
unfolding records
records_at_is s = refl
