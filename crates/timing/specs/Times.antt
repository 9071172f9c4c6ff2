-- The times of single statements, by their records, and what an answer in ticks says.
use Rattle.std.specs.Prelude.{ℕ, ◌+◌, ◌*◌, ◌%◌, ◌≡◌, cond, Option, None, Some, eqb, ltb}
use Rattle.model.specs.Limits.{by_variable}
use Rattle.model.specs.declared.Settings.{Settings}
use Rattle.model.specs.Records.{Rec, SKIP, SET, READ, WRITE, WHILE, BEAT, SAVE}

-- t ticks, or none where they are above p: "the answer is the time or refusal 8"
abbrev pub up_to : ℕ → ℕ → Option ℕ
up_to p t = cond (ltb p t) None (Some t)

abbrev pub Gives : ℕ → ℕ → Option ℕ → Type 0
Gives p t r = r ≡ up_to p t

-- a SET of an operation, and a record that opens and closes no block
abbrev pub set_ticks : Settings → ℕ → ℕ
set_ticks σ o = cond (eqb (o % by_variable) 3) σ.multiply σ.set

abbrev pub step_ticks : Settings → Rec → ℕ
step_ticks σ r =
    cond (eqb r.kind SKIP) r.count
    (cond (eqb r.kind SET) (set_ticks σ r.op)
    (cond (eqb r.kind READ) σ.read
    (cond (eqb r.kind WRITE) σ.write
    (cond (eqb r.kind BEAT) σ.beat
    (cond (eqb r.kind SAVE) σ.save
    1)))))

-- a round of a loop whose body takes t ticks, and the loop
abbrev pub round_ticks : ℕ → ℕ → ℕ
round_ticks k t = cond (eqb k WHILE) (t + 1) t

abbrev pub loop_ticks : Rec → ℕ → ℕ
loop_ticks r t = r.count * round_ticks r.kind t + 1
