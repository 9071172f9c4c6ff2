-- W-204, "Multiply has its own time": each part under the words that it answers. The proof is in proofs/Multiplying.antt.
use Rattle.std.specs.Prelude.{ℕ, ◌+◌, ◌*◌, ◌%◌, ◌^◌, ◌≤◌, ◌<◌, ◌≡◌, ◌↔◌, ◌⊎◌, true, false, List, [], ◌∷◌, ◌++◌, length, get_or}
use Rattle.model.specs.declared.Settings.{Settings}
use Rattle.model.specs.declared.Form.{Form}
use Rattle.model.specs.declared.Form.TheVariants.{Equalised}
use Rattle.model.specs.Limits.{by_variable}
use Rattle.model.specs.Records.{word_at}
use Rattle.model.specs.Settings.{settings_of, bad_settings}
use Rattle.model.specs.Trees.{Act, set, read, write, check, beat, save, Block, nil, skip, act, branch, while, times, size}
use Rattle.model.specs.Times.{ticks, time}
use Rattle.model.specs.Runs.{Effect, nothing, assigns, Step, duration, variables_after, right_value, last_test, effect, run}
use Rattle.model.specs.Stopping.{Image, rest, take_up}
use Rattle.model.specs.Listing.{start_ticks}
use Rattle.model.specs.Equalising.{equalise}
use Rattle.model.specs.Layout.{layout, total}
use Rattle.model.specs.Refusals.{op_fits, sound, fault}
use Rattle.model.specs.Answers.{Verdict, refused}
use Rattle.model.specs.Replies.{reading, lay_out_reply}
use Rattle.model.specs.Placement.{Each}

-- "3 multiply", and 16 more where the right value is a variable's
abbrev pub Multiplies : ℕ → Type 0
Multiplies o = o % by_variable ≡ 3

-- "a multiply time of 0 or above 65,535"
abbrev pub BadMultiply : ℕ → Type 0
BadMultiply n = (n ≡ 0) ⊎ (65535 < n)

-- an act that is no multiply, and one that is no other SET
abbrev pub NoMultiply : Act → Type 0
NoMultiply (set o t l x) = Multiplies o → ⊥
NoMultiply (read a p) = Unit {0}
NoMultiply (write a p) = Unit {0}
NoMultiply (check q) = Unit {0}
NoMultiply (beat x) = Unit {0}
NoMultiply (save m) = Unit {0}

abbrev pub OnlyMultiply : Act → Type 0
OnlyMultiply (set o t l x) = Multiplies o
OnlyMultiply (read a p) = Unit {0}
OnlyMultiply (write a p) = Unit {0}
OnlyMultiply (check q) = Unit {0}
OnlyMultiply (beat x) = Unit {0}
OnlyMultiply (save m) = Unit {0}

-- a step at record i that lasts d ticks and does w
abbrev pub Stands : Step → ℕ → ℕ → Effect → Type 0
Stands e i d w = (e.index ≡ i) × (e.lasts ≡ d) × (e.does ≡ w)

-- A step of a block whose first record has the index i, with variables v before it: it stands at one of its records, and lasts and does what that record
-- says. The test of a WHILE is the last one, or goes into a round or past it.
abbrev pub StepOf : Settings → List ℕ → Block → ℕ → List ℕ → Step → Type 0
StepOf σ ins nil i v e = ⊥
StepOf σ ins (skip n b) i v e = Stands e i n nothing ⊎ StepOf σ ins b (i + 1) v e
StepOf σ ins (act p b) i v e = Stands e i (ticks σ p) (effect ins p v) ⊎ StepOf σ ins b (i + 1) v e
StepOf σ ins (branch q a d b) i v e =
    Stands e i 1 nothing ⊎ (StepOf σ ins a (i + 1) v e ⊎ (StepOf σ ins d (i + 2 + size a) v e ⊎ StepOf σ ins b (i + 3 + size a + size d) v e))
StepOf σ ins (while q n a b) i v e =
    Stands e i 1 nothing ⊎ (Stands e i 1 (last_test q v) ⊎ (StepOf σ ins a (i + 1) v e ⊎ StepOf σ ins b (i + 2 + size a) v e))
StepOf σ ins (times q n a b) i v e = Stands e i 1 (last_test q v) ⊎ (StepOf σ ins a (i + 1) v e ⊎ StepOf σ ins b (i + 2 + size a) v e)

-- settings with these ticks of SET, READ, WRITE and a multiply; B, S, K, H and P stay
abbrev pub retimed : ℕ → ℕ → ℕ → ℕ → Settings → Settings
retimed a r w m σ = record {
  set = a;
  read = r;
  write = w;
  beat = σ.beat;
  save = σ.save;
  multiply = m;
  spacing = σ.spacing;
  window = σ.window;
  period = σ.period;
}

-- a block takes as long, is equalised, laid out, run and taken up alike, and its records start at the same ticks
pub record SameBlock (σ τ : Settings) (b : Block) : Type 0 where
  pub times : time τ b ≡ time σ b
  pub equalised : equalise τ b ≡ equalise σ b
  pub laid : layout τ b ≡ layout σ b
  pub totals : total τ b ≡ total σ b
  pub steps : (ins : List ℕ) (i : ℕ) (v : List ℕ) → run τ ins b i v ≡ run σ ins b i v
  pub taken_up_is : (ins : List ℕ) (i : Image) → take_up τ ins b i ≡ take_up σ ins b i
  pub starts : (t : ℕ) → start_ticks τ b t ≡ start_ticks σ b t

-- H below B + S + the ticks of SET, of a multiply, of READ or of WRITE
abbrev pub SevenCause : Settings → Type 0
SevenCause σ =
    let c = σ.beat + σ.save in
    (σ.window < c + σ.set) ⊎ ((σ.window < c + σ.multiply) ⊎ ((σ.window < c + σ.read) ⊎ (σ.window < c + σ.write)))

pub record Multiplying : Type 0 where
  -- "The zero in the second settings record becomes the ticks of a multiply .. with 12-byte settings it equals SET's."
  pub wide : (s : List ℕ) → length s ≡ 24 → (settings_of s).multiply ≡ word_at s 20
  pub narrow : (s : List ℕ) → length s ≡ 12 → (settings_of s).multiply ≡ (settings_of s).set
  -- "at least 1", "a multiply time of 0 or above 65,535 is 6": in `reading`, which by Replies every call that is handed settings and a file tries
  -- first. That 1 to 65,535 are taken is in `Widened.good`.
  pub bad : (s : List ℕ) → length s ≡ 24 → BadMultiply (word_at s 20) → (f : Form) (file : List ℕ) (next : Verdict) → reading s f file next ≡ refused 6 []
  -- "A SET's time now depends on its operation": of the operations that a SET may have, 3 and 19 multiply
  pub operations : (o x : ℕ) → op_fits 3 o x ≡ true → (Multiplies o) ↔ ((o ≡ 3) ⊎ (o ≡ 19))
  pub multiplies : (σ : Settings) (o t l x : ℕ) → Multiplies o → ticks σ (set o t l x) ≡ σ.multiply
  pub others : (σ : Settings) (o t l x : ℕ) → (Multiplies o → ⊥) → ticks σ (set o t l x) ≡ σ.set
  -- "3 multiply": a SET that takes this time multiplies
  pub product : (ins v : List ℕ) (o t l x : ℕ) → Multiplies o → effect ins (set o t l x) v ≡ assigns t (get_or v l 0 * right_value o x v % 2 ^ 32)
  -- "so times, equalising, layout and the runs all follow": a step of a run, in any form of file, whole or taken up, takes the ticks of the record that
  -- it does; no run is longer than the stated time, and by Demand2 those of a file that equalising or laying out wrote last just that, overruns aside
  pub lasts : (σ : Settings) (ins v : List ℕ) (b : Block) (i : ℕ) (pre : List Step) (e : Step) (post : List Step) → run σ ins b i v ≡ pre ++ e ∷ post
      → StepOf σ ins b i (variables_after pre v) e
  pub taken_up_lasts : (σ : Settings) (ins : List ℕ) (b : Block) (m : Image) (pre : List Step) (e : Step) (post : List Step)
      → take_up σ ins b m ≡ pre ++ e ∷ post → StepOf σ ins (rest b m.index) m.index (variables_after pre m.variables) e
  pub within : (σ : Settings) (ins v : List ℕ) (b : Block) (i : ℕ) → duration (run σ ins b i v) ≤ time σ b
  -- and a block depends on nothing but the ticks of its own acts and B, S, K, H and P
  pub follow : (σ : Settings) (a r w m : ℕ) (b : Block) → Each (λ p. ticks (retimed a r w m σ) p ≡ ticks σ p) b → SameBlock σ (retimed a r w m σ) b
  -- so where no SET of it multiplies, the ticks of a multiply change nothing of it, and where each one does, those of SET
  pub unused : (σ : Settings) (m : ℕ) (b : Block) → Each NoMultiply b → SameBlock σ (retimed σ.set σ.read σ.write m σ) b
  pub only : (σ : Settings) (n : ℕ) (b : Block) → Each OnlyMultiply b → SameBlock σ (retimed n σ.read σ.write σ.multiply σ) b
  -- "refusal 7's longest step counts it too": row 7's causes are these four, whatever a sound file holds
  pub seven : (s file : List ℕ) (room : ℕ) → bad_settings s ≡ false → fault Equalised file ≡ sound
      → (lay_out_reply s file room ≡ refused 7 []) ↔ SevenCause (settings_of s)
  -- "The comparison with 003's rules is made with this time in place of the single assignment time": `Equalises.writes` of Demand2 has 003's F, whose
  -- times are `time`; both are to be read beside 003's rules. 003 has one constant, WCET(x := e). In its place stand the ticks of a multiply where e is
  -- a product, and SET's elsewhere. Where these are one number, every assignment has it, as in 003.
  pub single : (σ : Settings) → σ.multiply ≡ σ.set → (o t l x : ℕ) → ticks σ (set o t l x) ≡ σ.set
