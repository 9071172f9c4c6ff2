-- The index of the ELSE or END that closes a block, by a count of the blocks opened in it.
use Rattle.std.specs.Prelude.{ℕ, zero, suc, ◌+◌, ◌-◌, ◌≤◌, ◌<◌, ◌≡◌, Bool, cond, ◌||◌, List, eqb, length, get_or}
use Rattle.model.specs.Records.{kind_at, IF, ELSE, WHILE, END, TIMES}

-- a record of a kind opens a block
abbrev pub opens_block : ℕ → Bool
opens_block k = eqb k IF || (eqb k WHILE || eqb k TIMES)

-- or closes one, or its first side
abbrev pub closes_block : ℕ → Bool
closes_block k = eqb k ELSE || eqb k END

-- what it makes of the count: it ends the block, or the scan goes on
pub data Pass : Type 0 where
  Ends : Pass
  On : ℕ → Pass

abbrev pub pass_to : ℕ → ℕ → Pass
pass_to k n =
    cond (opens_block k) (On (n + 1))
    (cond (eqb k ELSE) (cond (eqb n 0) Ends (On n))
    (cond (eqb k END) (cond (eqb n 0) Ends (On (n - 1)))
    (On n)))

abbrev pub go_on : Pass → ℕ → (ℕ → ℕ) → ℕ
go_on Ends i go = i
go_on (On n) i go = go n

-- of m records from i on, with n blocks opened, the first ELSE or END that closes none of these; i + m where there is none
unfoldable pub closing_in : List ℕ → ℕ → ℕ → ℕ → ℕ
closing_in s zero i n = i
closing_in s (suc m) i n = go_on (pass_to (kind_at s i) n) i (λ k. closing_in s m (i + 1) k)

-- the table of these for the records from i on, and for the end
pub record ClosingsFrom (s : List ℕ) (i to : ℕ) (closings : List ℕ) : Type 0 where
  pub at : (j : ℕ) → i ≤ j → j ≤ to → get_or closings j 0 ≡ closing_in s (to - j) j 0

-- the whole table
pub record Closings (s : List ℕ) (to : ℕ) (closings : List ℕ) : Type 0 where
  pub room : to < length closings
  pub at : (j : ℕ) → j ≤ to → get_or closings j 0 ≡ closing_in s (to - j) j 0
