-- What the scan of a file answers.
use Rattle.std.specs.Prelude.{ℕ, ◌+◌, ◌≤◌, ◌≡◌, List, [], ◌∷◌, length, Result, Ok, Err}
use Rattle.model.specs.declared.Form.{Form}
use Rattle.model.specs.Records.{Rec, records}
use Rattle.model.specs.Refusals.{Open, max_depth, scan, fault}
use Rattle.model.specs.Answers.{Verdict, refusal}
use Rattle.model.specs.declared.Refusal.{Refusal}
use Rattle.model.specs.Replies.{unless}
use Rattle.records.specs.Decoded.{checked}
use Rattle.records.specs.declared.Record.{Record}
use Rattle.records.specs.Records.{record_of}
use Rattle.reading.specs.Nesting.{blocks}
use Rattle.reading.specs.declared.nesting.Blocks.{Blocks}

-- rows 1 to 5
pub record Scans (f : Form) (s : List ℕ) (r : Result (Unit {0}) Refusal) : Type 0 where
  pub reply : (next : Verdict) → checked r next ≡ unless (fault f s) next

-- rows 2 to 5
pub record ScansRecords (f : Form) (s : List ℕ) (r : Result (Unit {0}) Refusal) : Type 0 where
  pub reply : (next : Verdict) → checked r next ≡ unless (scan f 0 [] (records s)) next

-- the scan at a record r with index i, the blocks os being open: refused whatever follows, or gone on with others open
abbrev pub TurnsTo : Form → Rec → ℕ → List Open → Result Blocks Refusal → Type 0
TurnsTo f r i os (Err x) = (rs : List Rec) (next : Verdict) → refusal x ≡ unless (scan f i os (r ∷ rs)) next
TurnsTo f r i os (Ok b) =
    (after : List Open) × (b ≡ blocks after) × (length after ≤ max_depth f) × ((rs : List Rec) → scan f i os (r ∷ rs) ≡ scan f (i + 1) after rs)

pub record Turns (f : Form) (r : Record) (i : ℕ) (b : Blocks) (t : Result Blocks Refusal) : Type 0 where
  pub to : (os : List Open) → b ≡ blocks os → TurnsTo f (record_of r) i os t
