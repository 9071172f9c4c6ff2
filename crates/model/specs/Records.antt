-- Document 01, "Records": the kinds, a record's six numbers, and records as bytes, both ways.
use Rattle.std.specs.Prelude.{ℕ, zero, suc, ◌+◌, ◌*◌, ◌/◌, ◌%◌, ◌<◌, List, [], ◌∷◌, ◌++◌, length, get_or, drop}

-- "Byte 0 is the kind (decimal): 1 SKIP, 2 SET, 3 READ, 4 WRITE, 5 IF, 6 ELSE, 7 WHILE, 8 END, 9 TIMES, 10 CHECK, 11 BEAT, 12 SAVE."
abbrev pub SKIP : ℕ
SKIP = 1

abbrev pub SET : ℕ
SET = 2

abbrev pub READ : ℕ
READ = 3

abbrev pub WRITE : ℕ
WRITE = 4

abbrev pub IF : ℕ
IF = 5

abbrev pub ELSE : ℕ
ELSE = 6

abbrev pub WHILE : ℕ
WHILE = 7

abbrev pub END : ℕ
END = 8

abbrev pub TIMES : ℕ
TIMES = 9

abbrev pub CHECK : ℕ
CHECK = 10

abbrev pub BEAT : ℕ
BEAT = 11

abbrev pub SAVE : ℕ
SAVE = 12

-- "records of 12 bytes": bytes 0, 1, 2 and 3, and the numbers in bytes 4 to 7 and 8 to 11
pub record Rec : Type 0 where
  pub kind : ℕ
  pub op : ℕ
  pub target : ℕ
  pub left : ℕ
  pub value : ℕ
  pub count : ℕ

abbrev pub rec : ℕ → ℕ → ℕ → ℕ → ℕ → ℕ → Rec
rec k o t l x n = record { kind = k; op = o; target = t; left = l; value = x; count = n }

-- a list of bytes
abbrev pub Bytes : List ℕ → Type 0
Bytes s = (i : ℕ) → get_or s i 0 < 256

-- "Multi-byte numbers are little-endian and unsigned": the number in the 2 or 4 bytes from at on, and the 2 or 4 bytes of a number
abbrev pub half_at : List ℕ → ℕ → ℕ
half_at s at = get_or s at 0 + 256 * get_or s (at + 1) 0

abbrev pub half_bytes : ℕ → List ℕ
half_bytes n = n % 256 ∷ n / 256 ∷ []

abbrev pub word_at : List ℕ → ℕ → ℕ
word_at s at = get_or s at 0 + 256 * get_or s (at + 1) 0 + 65536 * get_or s (at + 2) 0 + 16777216 * get_or s (at + 3) 0

abbrev pub word_bytes : ℕ → List ℕ
word_bytes n = n % 256 ∷ n / 256 % 256 ∷ n / 256 / 256 % 256 ∷ n / 256 / 256 / 256 ∷ []

-- "Every file is records of 12 bytes, with no header": the kind and the record with index i, the first n records, and all
abbrev pub kind_at : List ℕ → ℕ → ℕ
kind_at s i = get_or s (12 * i) 0

abbrev pub record_at : List ℕ → ℕ → Rec
record_at s i = rec (kind_at s i) (get_or s (12 * i + 1) 0) (get_or s (12 * i + 2) 0) (get_or s (12 * i + 3) 0) (word_at s (12 * i + 4)) (word_at s (12 * i + 8))

unfoldable pub first_records : ℕ → List ℕ → List Rec
first_records zero s = []
first_records (suc n) s = record_at s 0 ∷ first_records n (drop 12 s)

unfoldable pub records : List ℕ → List Rec
records s = first_records (length s / 12) s

-- the bytes of a record, and of records
abbrev pub record_bytes : Rec → List ℕ
record_bytes r = r.kind ∷ r.op ∷ r.target ∷ r.left ∷ (word_bytes r.value ++ word_bytes r.count)

unfoldable pub bytes : List Rec → List ℕ
bytes [] = []
bytes (r ∷ rs) = record_bytes r ++ bytes rs

-- bytes written over the front of a lent buffer: "A finished result leaves the bytes after it untouched."
abbrev pub over : List ℕ → List ℕ → List ℕ
over new old = new ++ drop (length new) old
