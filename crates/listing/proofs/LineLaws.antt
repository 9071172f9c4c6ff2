-- The numbers of a line, by the record's kind, and the line of an index.
use Prim.Native.Nat.{ℕ, ◌/◌, ◌≤◌, ◌<◌}
use mathlib.Core.Path.{◌≡◌, refl}
use mathlib.Core.Bool.{Bool, true, false, cond, ◌||◌}
use mathlib.Core.List.{List, [], ◌∷◌}
use lib.{ListN.length, ListN.get_or, Dec.eqb}
use borrow.Author.Tests.{lt-ltb, le-ltb}
use Rattle.std.specs.Prelude.{Some, None}
use Rattle.model.specs.declared.Numbers.{Numbers}
use Rattle.model.specs.Records.{Rec, record_at, SKIP, SET, READ, WRITE, IF, CHECK, BEAT}
use Rattle.model.specs.Listing.{listed_numbers, line_of, line_at}

-- THE NUMBERS OF A LINE

-- what is printed of a choice of numbers is the choice of what is printed
chosen : (s b w f : Bool) (one beat : ℕ) (x y op v : ℕ)
    → listed_numbers (cond s (Numbers.One one) (cond b (Numbers.One beat) (cond w (Numbers.Two x y) (cond f (Numbers.Four op x y v) Numbers.None))))
    ≡ cond s (one ∷ []) (cond b (beat ∷ []) (cond w (x ∷ y ∷ []) (cond f (op ∷ x ∷ y ∷ v ∷ []) [])))
chosen true b w f one beat x y op v = refl
chosen false true w f one beat x y op v = refl
chosen false false true f one beat x y op v = refl
chosen false false false true one beat x y op v = refl
chosen false false false false one beat x y op v = refl

-- a line's numbers are the paper's
pub counted_numbers : (t : ℕ) (r : Rec) → listed_numbers (line_of t r).numbers
    ≡ cond (eqb r.kind SKIP) (r.count ∷ []) (cond (eqb r.kind BEAT) (r.value ∷ [])
    (cond (eqb r.kind READ || eqb r.kind WRITE) (r.target ∷ r.left ∷ [])
    (cond (eqb r.kind SET || (eqb r.kind IF || eqb r.kind CHECK)) (r.op ∷ r.target ∷ r.left ∷ r.value ∷ []) [])))
counted_numbers t r =
    chosen (eqb r.kind SKIP) (eqb r.kind BEAT) (eqb r.kind READ || eqb r.kind WRITE) (eqb r.kind SET || (eqb r.kind IF || eqb r.kind CHECK))
    r.count r.value r.target r.left r.op r.value

-- THE LINE OF AN INDEX

module _ (laid table : List ℕ) (i : ℕ) where
  pub line_there : i < length laid / 12 → i < length table → Some (line_of (get_or table i 0) (record_at laid i)) ≡ line_at laid table i
  line_there h k = rw (lt-ltb i (length laid / 12) h, lt-ltb i (length table) k)

  pub line_past_file : length laid / 12 ≤ i → None ≡ line_at laid table i
  line_past_file h = rw (le-ltb i (length laid / 12) h)

  pub line_past_table : i < length laid / 12 → length table ≤ i → None ≡ line_at laid table i
  line_past_table h k = rw (lt-ltb i (length laid / 12) h, le-ltb i (length table) k)
