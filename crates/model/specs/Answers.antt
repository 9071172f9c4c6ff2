-- Document 01, "Forms and where they belong": "Where an answer is an enum, a definition gives this paper's number and values for each of
-- the enum's cases."
use Rattle.std.specs.Prelude.{ℕ, Bool, true, false, List, [], ◌∷◌, ◌++◌, get_or, Option, None, Some, Result, Ok, Err}
use Rattle.model.specs.declared.Refusal.{Refusal}
use Rattle.model.specs.declared.Equalised.{Equalised}
use Rattle.model.specs.declared.LaidOut.{LaidOut}
use Rattle.model.specs.declared.Ran.{Ran}
use Rattle.model.specs.declared.Stopped.{Stopped}
use Rattle.model.specs.declared.Health.{Health}
use Rattle.model.specs.declared.Watched.{Watched}
use Rattle.model.specs.declared.Rehearsed.{Rehearsed}
use Rattle.model.specs.declared.TakenUp.{TakenUp}

-- what a call answers: the values of a finished result, or a refusal's number and the value returned with it, if any
pub data Verdict : Type 0 where
  finished : List ℕ → Verdict
  refused : ℕ → List ℕ → Verdict

-- whether a call was not refused, and a value of its answer
abbrev pub is_finished : Verdict → Bool
is_finished (finished xs) = true
is_finished (refused n xs) = false

abbrev pub value_at : ℕ → Verdict → ℕ
value_at i (finished xs) = get_or xs i 0
value_at i (refused n xs) = 0

-- calls one after another, up to the first that refuses
abbrev pub and_then : Verdict → Verdict → Verdict
and_then (finished xs) next = next
and_then (refused n xs) next = refused n xs

-- "Left as it was" .. "all", at a refusal
abbrev pub kept : {A : Type 0} → Verdict → A → A → A
kept (finished xs) new old = new
kept (refused n xs) new old = old

abbrev pub bit : Bool → ℕ
bit true = 1
bit false = 0

-- the table's columns "No." and "Returned"
abbrev pub row : Refusal → ℕ × List ℕ
row (Refusal.BadLength n) = (1, n ∷ [])
row (Refusal.BadKind i) = (2, i ∷ [])
row (Refusal.BadField i) = (3, i ∷ [])
row (Refusal.BadStructure i) = (4, i ∷ [])
row (Refusal.TooDeep i) = (5, i ∷ [])
row Refusal.BadSettings = (6, [])
row Refusal.ShortWindow = (7, [])
row Refusal.OverPeriod = (8, [])
row Refusal.NoRoom = (9, [])
row Refusal.BadBuffers = (10, [])
row Refusal.BadImage = (11, [])
row Refusal.LateStop = (12, [])
row Refusal.BadEntry = (13, [])

abbrev pub refusal : Refusal → Verdict
refusal x = refused (row x).0 (row x).1

-- a call's answer: the values of a finished result, or a refusal
abbrev pub answered : {A : Type 0} → (A → List ℕ) → Result A Refusal → Verdict
answered values (Ok x) = finished (values x)
answered values (Err r) = refusal r

-- "Timing a file answers its time; equalising answers the bytes written and the time, laying out the bytes written and the total."
abbrev pub timed : Result ℕ Refusal → Verdict
timed r = answered (λ (t : ℕ). t ∷ []) r

abbrev pub equalised : Result Equalised Refusal → Verdict
equalised r = answered (λ (x : Equalised). x.bytes ∷ x.time ∷ []) r

abbrev pub laid_out : Result LaidOut Refusal → Verdict
laid_out r = answered (λ (x : LaidOut). x.bytes ∷ x.total ∷ []) r

-- "A run answers its end tick, or the stop tick, and whether it overran." A stopped run has not overrun; its answer also says whether
-- there is a finished SAVE.
abbrev pub ran : Result Ran Refusal → Verdict
ran r = answered (λ (x : Ran). x.tick ∷ bit x.overran ∷ []) r

abbrev pub stopped : Result Stopped Refusal → Verdict
stopped r = answered (λ (x : Stopped). x.tick ∷ 0 ∷ bit x.saved ∷ []) r

-- W-201: "waiting, well, suspect or failed", by their numbers. The watcher's calls answer how the entry then is, and its count and 2 more.
abbrev pub health_number : Health → ℕ
health_number Health.Waiting = 0
health_number Health.Well = 1
health_number Health.Suspect = 2
health_number Health.Failed = 3

abbrev pub watched : Result Watched Refusal → Verdict
watched r = answered (λ (x : Watched). health_number x.health ∷ x.left ∷ []) r

-- `rehearse` answers whether the ends are alike, the laid length and total, and the end tick; of a stopped run also the stop
-- tick, whether there is an image and its tick, and the ticks run twice.
abbrev pub image_values : Option ℕ → List ℕ
image_values None = 0 ∷ 0 ∷ []
image_values (Some t) = 1 ∷ t ∷ []

abbrev pub taken_up_values : Option TakenUp → List ℕ
taken_up_values None = []
taken_up_values (Some x) = x.stop ∷ image_values x.image ++ x.twice ∷ []

abbrev pub rehearsed : Result Rehearsed Refusal → Verdict
rehearsed r = answered (λ (x : Rehearsed). bit x.alike ∷ x.bytes ∷ x.total ∷ x.end ∷ taken_up_values x.taken_up) r
