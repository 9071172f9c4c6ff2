-- Document 01, "Why a call is turned down", rows 6 and 1 to 5: settings and files at the limits and past them, and what timing them answers.
use Prim.Native.Nat.{ℕ}
use mathlib.Core.Path.{◌≡◌, refl}
use mathlib.Core.List.{List, [], ◌∷◌, ◌++◌, map}
use lib.ListN.{replicate}
use Rattle.model.specs.declared.Form.{Form}
use Rattle.model.specs.declared.Form.TheVariants.{Task, Equalised, Laid}
use Rattle.model.specs.Records.{first_records, records, SKIP, SET, READ, IF, ELSE, WHILE, END, TIMES, CHECK, BEAT, SAVE}
use Rattle.model.specs.{Settings.settings_of, Settings.bad_settings, Answers.Verdict, Replies.reading, Replies.time_reply}
use Rattle.model.specs.{Trees.stack_of, Trees.tree_of, Trees.file_tree, Refusals.fields_fit, Refusals.scan, Refusals.fault}
use Rattle.model.proofs.Bench.{row, file, junk, said}

-- an answer, and what the table says: the number and value, or 0 and the values of a finished result
pub record Case : Type 0 where
  pub answer : Verdict
  pub expects : List ℕ

infix 30 ◌says◌
abbrev pub ◌says◌ : Verdict → List ℕ → Case
◌says◌ r xs = record { answer = r; expects = xs }

abbrev pub Answered : List Case → Type 0
Answered cs = map (λ (c : Case). said c.answer) cs ≡ map (λ (c : Case). c.expects) cs

-- settings of ticks and K n, H 20, and P with these three lower bytes
abbrev rack : ℕ → ℕ → ℕ → ℕ → List ℕ
rack n p q r = n ∷ n ∷ n ∷ n ∷ n ∷ n ∷ 20 ∷ 0 ∷ p ∷ q ∷ r ∷ 0 ∷ []

-- wide ones of ticks m + 256 n, K 1, H 999,936 + h, P 1,000,000, and a multiply of a + 256 b + 65,536 c
abbrev wide : ℕ → ℕ → ℕ → ℕ → ℕ → ℕ → List ℕ
wide m n h a b c = m ∷ n ∷ m ∷ n ∷ m ∷ n ∷ m ∷ n ∷ m ∷ n ∷ 1 ∷ 0 ∷ h ∷ 66 ∷ 15 ∷ 0 ∷ 64 ∷ 66 ∷ 15 ∷ 0 ∷ a ∷ b ∷ c ∷ 0 ∷ []

-- each number at its place, the lowest byte first
pub narrow_places : settings_of (1 ∷ 2 ∷ 3 ∷ 4 ∷ 5 ∷ 6 ∷ 7 ∷ 8 ∷ 9 ∷ 10 ∷ 11 ∷ 12 ∷ []) ≡ record {
  set = 1;
  read = 2;
  write = 3;
  beat = 4;
  save = 5;
  multiply = 1;
  spacing = 6;
  window = 2055;
  period = 202050057;
}
unfolding settings_of
narrow_places = refl

pub wide_places : settings_of (1 ∷ 2 ∷ 3 ∷ 4 ∷ 5 ∷ 6 ∷ 7 ∷ 8 ∷ 9 ∷ 10 ∷ 11 ∷ 12 ∷ 13 ∷ 14 ∷ 15 ∷ 16 ∷ 17 ∷ 18 ∷ 19 ∷ 20 ∷ 21 ∷ 22 ∷ 23 ∷ 24 ∷ []) ≡ record {
  set = 513;
  read = 1027;
  write = 1541;
  beat = 2055;
  save = 2569;
  multiply = 404166165;
  spacing = 3083;
  window = 269422093;
  period = 336794129;
}
unfolding settings_of
wide_places = refl

-- a file of these rows, timed with P 1,000,000
abbrev time : Form → List (List ℕ) → Verdict
time f rs = time_reply (rack 3 64 66 15) f (file rs)

-- rows of a kind alone, and of a count with these three lower bytes
abbrev bare : ℕ → List ℕ
bare k = row k 0 0 0 0 0

abbrev counted : ℕ → ℕ → ℕ → ℕ → List ℕ
counted k a b c = k ∷ 0 ∷ 0 ∷ 0 ∷ 0 ∷ 0 ∷ 0 ∷ 0 ∷ a ∷ b ∷ c ∷ 0 ∷ []

abbrev skips : ℕ → List (List ℕ)
skips n = replicate n (row SKIP 0 0 0 0 1)

-- on a line, at the limit and past it
pub turns : List Case
turns =
    -- "a length other than 12 or 24, or a bad number"
    (time_reply (rack 1 1 0 0) Task [] says 0 ∷ 0 ∷ []) ∷ (time_reply (rack 0 1 0 0) Task [] says 6 ∷ [])
    ∷ (time_reply (rack 1 64 66 15) Task [] says 0 ∷ 0 ∷ []) ∷ (time_reply (rack 1 65 66 15) Task [] says 6 ∷ [])
    ∷ (time_reply (junk 13) Task (junk 5) says 6 ∷ []) ∷ (time_reply (junk 25) Task (junk 5) says 6 ∷ [])
    ∷ (time_reply (wide 255 255 64 1 0 0) Laid (bare SAVE) says 0 ∷ 65535 ∷ []) ∷ (time_reply (wide 0 0 64 1 0 0) Task [] says 6 ∷ [])
    ∷ (time_reply (wide 0 1 64 1 0 0) Laid (bare BEAT) says 0 ∷ 256 ∷ []) ∷ (time_reply (wide 0 1 65 1 0 0) Task [] says 6 ∷ [])
    -- W-204: "a multiply time of 0 or above 65,535 is 6"
    ∷ (time_reply (wide 0 1 64 255 255 0) Task (row SET 3 0 0 0 0) says 0 ∷ 65535 ∷ []) ∷ (time_reply (wide 0 1 64 0 0 1) Task [] says 6 ∷ [])
    ∷ (time_reply (wide 0 1 64 0 0 0) Task [] says 6 ∷ [])
    -- "file not whole records, or too many"
    ∷ (time Task (skips 256) says 0 ∷ 256 ∷ []) ∷ (time Task (skips 257) says 1 ∷ 3084 ∷ [])
    ∷ (time Laid (skips 5461) says 0 ∷ 5461 ∷ []) ∷ (time Equalised (skips 5462) says 1 ∷ 65544 ∷ [])
    ∷ (time Laid (junk 13 ∷ []) says 1 ∷ 13 ∷ []) ∷ (time Laid (bare BEAT ∷ junk 6 ∷ []) says 1 ∷ 18 ∷ [])
    -- "kind not of this file"
    ∷ (time Task (counted WHILE 1 0 0 ∷ bare END ∷ []) says 0 ∷ 2 ∷ []) ∷ (time Task (counted TIMES 1 0 0 ∷ bare END ∷ []) says 2 ∷ 0 ∷ [])
    ∷ (time Equalised (counted TIMES 1 0 0 ∷ bare END ∷ []) says 0 ∷ 1 ∷ []) ∷ (time Equalised (counted WHILE 1 0 0 ∷ []) says 2 ∷ 0 ∷ [])
    ∷ (time Laid (bare CHECK ∷ bare BEAT ∷ bare SAVE ∷ []) says 0 ∷ 7 ∷ []) ∷ (time Laid (bare SAVE ∷ bare 13 ∷ []) says 2 ∷ 1 ∷ [])
    -- "a field out of range or an unused byte not 0"
    ∷ (time Task (row SET 19 15 15 15 0 ∷ []) says 0 ∷ 3 ∷ []) ∷ (time Task (row SET 20 0 0 0 0 ∷ []) says 3 ∷ 0 ∷ [])
    ∷ (time Task (row SET 1 16 0 0 0 ∷ []) says 3 ∷ 0 ∷ []) ∷ (time Task (row SET 0 0 1 0 0 ∷ []) says 3 ∷ 0 ∷ [])
    ∷ (time Task (row READ 0 15 7 0 0 ∷ []) says 0 ∷ 3 ∷ []) ∷ (time Task (row READ 0 0 8 0 0 ∷ []) says 3 ∷ 0 ∷ [])
    ∷ (time Laid (row CHECK 21 0 15 15 0 ∷ []) says 0 ∷ 1 ∷ []) ∷ (time Laid (row CHECK 22 0 0 0 0 ∷ []) says 3 ∷ 0 ∷ [])
    ∷ (time Task (counted SKIP 64 66 15 ∷ []) says 0 ∷ 1000000 ∷ []) ∷ (time Task (counted SKIP 65 66 15 ∷ []) says 3 ∷ 0 ∷ [])
    ∷ (time Task (counted WHILE 255 255 0 ∷ bare END ∷ []) says 0 ∷ 65536 ∷ []) ∷ (time Task (counted WHILE 0 0 1 ∷ []) says 3 ∷ 0 ∷ [])
    ∷ (time Laid (bare SAVE ∷ []) says 0 ∷ 3 ∷ []) ∷ (time Laid (row SAVE 0 0 0 1 0 ∷ []) says 3 ∷ 0 ∷ [])
    -- "ELSE whose innermost open block is not an IF, END with no block open, IF closed with no ELSE, second ELSE, or a block open at the end"
    ∷ (time Task (bare IF ∷ bare ELSE ∷ bare END ∷ []) says 0 ∷ 1 ∷ []) ∷ (time Task (counted WHILE 1 0 0 ∷ bare ELSE ∷ []) says 4 ∷ 1 ∷ [])
    ∷ (time Task (bare END ∷ bare SAVE ∷ []) says 4 ∷ 0 ∷ []) ∷ (time Task (bare IF ∷ bare END ∷ []) says 4 ∷ 1 ∷ [])
    ∷ (time Task (bare IF ∷ bare ELSE ∷ bare ELSE ∷ bare END ∷ []) says 4 ∷ 2 ∷ [])
    -- the same, and "nesting too deep"; in a task 8 and 9 are bench tasks
    ∷ (time Laid (replicate 16 (bare IF)) says 4 ∷ 16 ∷ []) ∷ (time Laid (replicate 17 (bare IF)) says 5 ∷ 16 ∷ [])
    -- "2 to 5 are tried in turn at each record"
    ∷ (time Task (replicate 8 (bare IF) ++ row IF 6 0 0 0 0 ∷ []) says 3 ∷ 8 ∷ [])
    ∷ []

pub turns_answered : Answered turns
unfolding turns first_records records settings_of bad_settings stack_of tree_of file_tree fields_fit scan fault reading time_reply
turns_answered = refl
