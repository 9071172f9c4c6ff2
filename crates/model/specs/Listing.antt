-- Document 01, "The list program".
use Rattle.std.specs.Prelude.{ℕ, zero, suc, ◌+◌, ◌/◌, ◌%◌, max, cond, ◌||◌, ◌&&◌, List, [], ◌∷◌, ◌++◌, eqb, ltb, length, get_or, Option, None, Some}
use Prim.Native.Char.{code}
use Prim.Native.String.{String, [] as []ᵗ, ◌∷◌ as ◌∷ᵗ◌}
use Rattle.model.specs.declared.Settings.{Settings}
use Rattle.model.specs.declared.Line.{Line}
use Rattle.model.specs.declared.Numbers.{Numbers}
use Rattle.model.specs.Records.{Rec, record_at, SKIP, SET, READ, WRITE, IF, ELSE, END, CHECK, BEAT, over}
use Rattle.model.specs.Settings.{settings_of}
use Rattle.model.specs.Trees.{Block, nil, skip, act, branch, while, times, linearise}
use Rattle.model.specs.Times.{ticks, time}
use Rattle.model.specs.Answers.{Verdict, finished, refused, kept}
use Rattle.model.specs.Limits.{file_length}
use Rattle.model.specs.Replies.{laid_tree, laid_total, equalised_of, prepare_reply}

-- LINES

-- "for BEAT and SKIP, the number; READ and WRITE print variable and port; SET and tests print bytes 1, 2, 3 and the value of
-- bytes 4 to 7; ELSE, END and SAVE nothing more"
abbrev pub numbers_of : Rec → Numbers
numbers_of r =
    cond (eqb r.kind SKIP) (Numbers.One r.count)
    (cond (eqb r.kind BEAT) (Numbers.One r.value)
    (cond (eqb r.kind READ || eqb r.kind WRITE) (Numbers.Two r.target r.left)
    (cond (eqb r.kind SET || (eqb r.kind IF || eqb r.kind CHECK)) (Numbers.Four r.op r.target r.left r.value)
    Numbers.None)))

-- "for each laid record .. its start tick, name and" these numbers
abbrev pub line_of : ℕ → Rec → Line
line_of t r = record { tick = t; kind = r.kind; numbers = numbers_of r }

-- the tick at which each record starts: "An IF's two sides both start from its tick plus 1, which ELSE prints too; END prints the tick
-- where they meet." A laid file has no loop.
abbrev pub start_ticks : Settings → Block → ℕ → List ℕ
start_ticks σ nil t = []
start_ticks σ (skip n b) t = t ∷ start_ticks σ b (t + n)
start_ticks σ (act p b) t = t ∷ start_ticks σ b (t + ticks σ p)
start_ticks σ (branch q a d b) t =
    let e = t + 1 + max (time σ a) (time σ d) in
    t ∷ (start_ticks σ a (t + 1) ++ (t + 1) ∷ (start_ticks σ d (t + 1) ++ e ∷ start_ticks σ b e))
start_ticks σ (while q n a b) t = []
start_ticks σ (times q n a b) t = []

abbrev pub lines_of : List ℕ → List Rec → List Line
lines_of [] rs = []
lines_of (t ∷ ts) [] = []
lines_of (t ∷ ts) (r ∷ rs) = line_of t r ∷ lines_of ts rs

-- LISTING A TASK

-- `list_task`: a task is prepared in room for the longest file, and each laid record's tick goes into a table, whose rest is untouched
abbrev pub laid_from : List ℕ → List ℕ → Block
laid_from s task = laid_tree s (equalised_of s task)

unfoldable pub list_starts : List ℕ → List ℕ → List ℕ → List ℕ
list_starts s task table = kept (prepare_reply s task file_length) (over (start_ticks (settings_of s) (laid_from s task) 0) table) table

-- `line_at`: the line of record i; there is none where the file or the table ends before it
abbrev pub line_at : List ℕ → List ℕ → ℕ → Option Line
line_at laid table i =
    cond (ltb i (length laid / 12) && ltb i (length table)) (Some (line_of (get_or table i 0) (record_at laid i))) None

-- WHAT IS PRINTED

-- "The last line is the total and `end`. A refusal prints `refused` and its number alone."
pub data Printed : Type 0 where
  listed : List Line → ℕ → Printed
  turned_down : ℕ → Printed

abbrev pub or_turned_down : Verdict → Printed → Printed
or_turned_down (finished xs) p = p
or_turned_down (refused n xs) p = turned_down n

-- "It reads `rack.set` (settings) and the task on standard input."
unfoldable pub printed : List ℕ → List ℕ → Printed
printed s task =
    let b = laid_from s task in
    or_turned_down (prepare_reply s task file_length)
    (listed (lines_of (start_ticks (settings_of s) b 0) (linearise b)) (laid_total s (equalised_of s task)))

-- AS TEXT

abbrev pub ascii : String → List ℕ
ascii []ᵗ = []
ascii (c ∷ᵗ s) = code c ∷ ascii s

abbrev pub name : ℕ → String
name k =
    cond (eqb k SKIP) "SKIP" (cond (eqb k SET) "SET" (cond (eqb k READ) "READ" (cond (eqb k WRITE) "WRITE" (cond (eqb k IF) "IF"
    (cond (eqb k ELSE) "ELSE" (cond (eqb k END) "END" (cond (eqb k CHECK) "CHECK" (cond (eqb k BEAT) "BEAT" "SAVE"))))))))

-- "in decimal": the digits of n, of which there are at most as many as the first number
abbrev pub digits_up_to : ℕ → ℕ → List ℕ
digits_up_to zero n = []
digits_up_to (suc k) n = cond (ltb n 10) ((48 + n) ∷ []) (digits_up_to k (n / 10) ++ (48 + n % 10) ∷ [])

-- 32 bits have at most ten
unfoldable pub decimal : ℕ → List ℕ
decimal n = digits_up_to 10 n

-- "and with single spaces"
abbrev pub spaced : List ℕ → List ℕ
spaced [] = []
spaced (n ∷ ns) = ascii " " ++ decimal n ++ spaced ns

abbrev pub listed_numbers : Numbers → List ℕ
listed_numbers Numbers.None = []
listed_numbers (Numbers.One a) = a ∷ []
listed_numbers (Numbers.Two a b) = a ∷ b ∷ []
listed_numbers (Numbers.Three a b c) = a ∷ b ∷ c ∷ []
listed_numbers (Numbers.Four a b c d) = a ∷ b ∷ c ∷ d ∷ []

abbrev pub line_text : Line → List ℕ
line_text l = decimal l.tick ++ ascii " " ++ ascii (name l.kind) ++ spaced (listed_numbers l.numbers) ++ ascii "\n"

abbrev pub lines_text : List Line → List ℕ
lines_text [] = []
lines_text (l ∷ ls) = line_text l ++ lines_text ls

unfoldable pub printed_text : Printed → List ℕ
printed_text (listed ls t) = lines_text ls ++ decimal t ++ ascii " end\n"
printed_text (turned_down n) = ascii "refused " ++ decimal n ++ ascii "\n"
