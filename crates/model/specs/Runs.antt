-- Document 01, "Times and meanings", its second paragraph: a run as the list of the steps that it does, and what steps leave.
use Rattle.std.specs.Prelude.{ℕ, zero, suc, ◌+◌, ◌*◌, ◌-◌, ◌%◌, ◌^◌, Bool, true, false, cond, not, ◌||◌, List, [], ◌∷◌, ◌++◌, eqb, leb, ltb, get_or, replicate, set as set_at}
use Rattle.model.specs.declared.Settings.{Settings}
use Rattle.model.specs.Limits.{port_count, by_variable}
use Rattle.model.specs.Trees.{Test, Act, set, read, write, check, beat, save, Block, nil, skip, act, branch, while, times, size}
use Rattle.model.specs.Times.{ticks}

-- what a step does
pub data Effect : Type 0 where
  nothing : Effect
  assigns : ℕ → ℕ → Effect  -- variable, value
  outputs : ℕ → ℕ → Effect  -- port, level
  beats : ℕ → Effect  -- the BEAT's value
  saves : ℕ → Effect  -- the number in bytes 4 to 7 of the SAVE
  overruns : Effect

-- a step: its ticks, the index of its record, and what it does at its end
pub record Step : Type 0 where
  pub lasts : ℕ
  pub index : ℕ
  pub does : Effect

abbrev pub step : ℕ → ℕ → Effect → Step
step d i w = record { lasts = d; index = i; does = w }

-- the steps that are BEATs, SAVEs and overruns
abbrev pub is_beat : Effect → Bool
is_beat nothing = false
is_beat (assigns a x) = false
is_beat (outputs p x) = false
is_beat (beats x) = true
is_beat (saves m) = false
is_beat overruns = false

abbrev pub is_save : Effect → Bool
is_save nothing = false
is_save (assigns a x) = false
is_save (outputs p x) = false
is_save (beats x) = false
is_save (saves m) = true
is_save overruns = false

abbrev pub is_overrun : Effect → Bool
is_overrun nothing = false
is_overrun (assigns a x) = false
is_overrun (outputs p x) = false
is_overrun (beats x) = false
is_overrun (saves m) = false
is_overrun overruns = true

-- what f takes of the start tick and the effect of each step, where the first begins at tick t
abbrev pub gather : {A : Type 0} → (ℕ → Effect → List A) → ℕ → List Step → List A
gather f t [] = []
gather f t (e ∷ es) = f t e.does ++ gather f (t + e.lasts) es

-- the start ticks of those that p picks
abbrev pub starts : (Effect → Bool) → ℕ → List Step → List ℕ
starts p = gather (λ t w. cond (p w) (t ∷ []) [])

-- WHAT STEPS LEAVE

-- "Steps .. add their ticks."
abbrev pub duration : List Step → ℕ
duration [] = 0
duration (e ∷ es) = e.lasts + duration es

-- "SET puts its operation's result into the target. READ puts the port's input into the variable."
abbrev pub on_variables : Effect → List ℕ → List ℕ
on_variables nothing v = v
on_variables (assigns a x) v = set_at v a x
on_variables (outputs p x) v = v
on_variables (beats x) v = v
on_variables (saves m) v = v
on_variables overruns v = v

abbrev pub variables_after : List Step → List ℕ → List ℕ
variables_after [] v = v
variables_after (e ∷ es) v = variables_after es (on_variables e.does v)

-- "WRITE makes the variable's value the port's level and sets its mark to 1": f gives the level or the mark of a value
abbrev pub on_outputs : (ℕ → ℕ) → Effect → List ℕ → List ℕ
on_outputs f nothing l = l
on_outputs f (assigns a x) l = l
on_outputs f (outputs p x) l = set_at l p (f x)
on_outputs f (beats x) l = l
on_outputs f (saves m) l = l
on_outputs f overruns l = l

abbrev pub outputs_after : (ℕ → ℕ) → List Step → List ℕ → List ℕ
outputs_after f [] l = l
outputs_after f (e ∷ es) l = outputs_after f es (on_outputs f e.does l)

abbrev pub level : ℕ → ℕ
level x = x

abbrev pub mark : ℕ → ℕ
mark x = 1

abbrev pub overran : List Step → Bool
overran [] = false
overran (e ∷ es) = is_overrun e.does || overran es

-- what a run holds of its caller: 16 variables, and 8 levels and 8 marks
pub record Buffers : Type 0 where
  pub variables : List ℕ
  pub levels : List ℕ
  pub marks : List ℕ

abbrev pub leave : List Step → Buffers → Buffers
leave es b = record {
  variables = variables_after es b.variables;
  levels = outputs_after level es b.levels;
  marks = outputs_after mark es b.marks;
}

-- "A run not taken up .. first sets all levels and marks to 0"
abbrev pub cleared : List ℕ → Buffers
cleared v = record { variables = v; levels = replicate port_count 0; marks = replicate port_count 0 }

-- TESTS AND OPERATIONS

-- "Add 16 to byte 1 when bytes 4 to 7 number a variable instead."
abbrev pub right_value : ℕ → ℕ → List ℕ → ℕ
right_value o x v = cond (leb by_variable o) (get_or v x 0) x

-- "the relation (0 =, 1 ≠, 2 <, 3 ≤, 4 >, 5 ≥ ..)", "tests compare unsigned"
abbrev pub compares : ℕ → ℕ → ℕ → Bool
compares o a b =
    cond (eqb o 0) (eqb a b)
    (cond (eqb o 1) (not (eqb a b))
    (cond (eqb o 2) (ltb a b)
    (cond (eqb o 3) (leb a b)
    (cond (eqb o 4) (ltb b a)
    (leb b a)))))

unfoldable pub holds : Test → List ℕ → Bool
holds q v = compares (q.relation % by_variable) (get_or v q.left 0) (right_value q.relation q.right v)

-- "the operation (0 copy the right value, 1 add, 2 subtract, 3 multiply)", "taken modulo 2^32"
unfoldable pub result_of : ℕ → ℕ → ℕ → ℕ
result_of o a b =
    cond (eqb o 0) b
    (cond (eqb o 1) ((a + b) % 2 ^ 32)
    (cond (eqb o 2) ((a + 2 ^ 32 - b) % 2 ^ 32)
    (a * b % 2 ^ 32)))

-- "CHECK is that last test alone", "if the test holds, overrun"
abbrev pub last_test : Test → List ℕ → Effect
last_test q v = cond (holds q v) overruns nothing

unfoldable pub effect : List ℕ → Act → List ℕ → Effect
effect ins (set o t l x) v = assigns t (result_of (o % by_variable) (get_or v l 0) (right_value o x v))
effect ins (read a p) v = assigns a (get_or ins p 0)
effect ins (write a p) v = outputs p (get_or v a 0)
effect ins (check q) v = last_test q v
effect ins (beat x) v = beats x
effect ins (save m) v = saves m

-- RUNS

-- a run takes the variables to the steps done
abbrev pub Run : Type 0
Run = List ℕ → List Step

-- one run and then another, unless the first overran: "A run ends after the last record or where it overran."
infixr 55 ◌⊳◌
abbrev pub ◌⊳◌ : Run → Run → Run
◌⊳◌ f g v = f v ++ cond (overran (f v)) [] (g (variables_after (f v) v))

-- a step of d ticks at record i
abbrev pub single : ℕ → ℕ → (List ℕ → Effect) → Run
single d i w v = step d i (w v) ∷ []

-- "IF tests and runs its first side or, where the test fails, the one after ELSE; both go on after END."
abbrev pub choose : ℕ → Test → Run → Run → Run
choose i q f g v = step 1 i nothing ∷ cond (holds q v) (f v) (g v)

-- "WHILE tests before each round and, where the test fails, goes on after END; if it still holds after the full count, the run
-- stops there as overrun."
abbrev pub spin : ℕ → ℕ → Test → Run → Run
spin i zero q f v = single 1 i (last_test q) v
spin i (suc n) q f v = step 1 i nothing ∷ cond (holds q v) ((f ⊳ spin i n q f) v) []

-- "TIMES runs its body count times and then tests once: if the test holds, overrun."
abbrev pub rounds : ℕ → Run → Run
rounds zero f v = []
rounds (suc n) f v = (f ⊳ rounds n f) v

-- the steps of a block whose first record has the index i, on inputs ins
abbrev pub run : Settings → List ℕ → Block → ℕ → Run
run σ ins nil i = λ v. []
run σ ins (skip n b) i = single n i (λ v. nothing) ⊳ run σ ins b (i + 1)
run σ ins (act p b) i = single (ticks σ p) i (effect ins p) ⊳ run σ ins b (i + 1)
run σ ins (branch q a d b) i =
    choose i q (run σ ins a (i + 1)) (run σ ins d (i + 2 + size a)) ⊳ run σ ins b (i + 3 + size a + size d)
run σ ins (while q n a b) i = spin i n q (run σ ins a (i + 1)) ⊳ run σ ins b (i + 2 + size a)
run σ ins (times q n a b) i =
    (rounds n (run σ ins a (i + 1)) ⊳ single 1 i (last_test q)) ⊳ run σ ins b (i + 2 + size a)
