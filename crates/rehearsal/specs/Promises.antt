-- What the parts of a rehearsal answer.
use Rattle.std.specs.Prelude.{ℕ, ◌≡◌, List, [], ◌∷◌, replicate, Option, None, Some, Result, Ok, Err}
use Rattle.model.specs.Limits.{image_length, variable_count}
use Rattle.model.specs.declared.Form.TheVariants.{Laid}
use Rattle.model.specs.Answers.{Verdict, finished, bit, refusal, taken_up_values}
use Rattle.model.specs.Replies.{Loan, run_reply}
use Rattle.model.specs.Chain.{Outputs, lend, End, run_end}
use Rattle.model.specs.declared.{Refusal.Refusal, TakenUp.TakenUp}
use Rattle.rehearsal.specs.declared.ends.Final.{Final}
use Rattle.rehearsal.specs.declared.runs.Finished.{Finished}
use Rattle.rehearsal.specs.declared.second.Left.{Left}
use Rattle.model.specs.Rehearsal.{same_end, zero_outputs, whole_of, stopped_of}

-- an end
abbrev pub end_in : Final → End
end_in e = record { buffers = record { variables = e.variables; levels = e.levels; marks = e.marks }; overran = bit e.overran }

-- a run that was lent c, and the end that it came to
abbrev pub Finishes : Loan → Result Finished Refusal → Type 0
Finishes c (Ok x) = (finished (x.tick ∷ bit x.end.overran ∷ []) ≡ run_reply c) × (end_in x.end ≡ run_end c)
Finishes c (Err x) = refusal x ≡ run_reply c

-- what is told of the end x, beside the end a of the task as written
abbrev pub told_of : End → ℕ → ℕ → Finished → Option TakenUp → Verdict
told_of a total bytes x u = finished (bit (same_end a (end_in x.end)) ∷ bytes ∷ total ∷ x.tick ∷ taken_up_values u)

-- a laid file that is lent to a run with outputs that hold zeros
abbrev pub laid_loan : List ℕ → List ℕ → List ℕ → List ℕ → Loan
laid_loan s file v ins = lend s Laid file ins v zero_outputs

-- the laid file run whole, or stopped with an image buffer and a spare set that hold zeros
abbrev pub second_of : Option ℕ → End → ℕ → Loan → Verdict
second_of None a total c = whole_of a total c
second_of (Some stop) a total c = stopped_of a total c (replicate image_length 0) (replicate variable_count 0) stop

-- what a stop left
abbrev pub outputs_in : Left → Outputs
outputs_in x = record { levels = x.levels; marks = x.marks }
