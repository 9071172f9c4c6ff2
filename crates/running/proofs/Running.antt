-- Records run one after another: what is done, what is left, and what an answer that has halted says.
use Prim.Native.Nat.{ℕ, ◌+◌, ◌≤◌, ◌<◌}
use native.Mathlib.{Omega.arith, Nat.add-zero}
use mathlib.Core.Path.{◌≡◌, refl, ap, sym, subst, ◌∙◌}
use mathlib.Core.Bool.{Bool, true, false, cond, ◌||◌}
use Rattle.std.proofs.Common.{Result, Ok, Err}
use mathlib.Core.List.{List, [], ◌++◌}
use Rattle.model.specs.declared.Settings.{Settings}
use Rattle.model.specs.Records.{kind_at}
use Rattle.model.specs.Trees.{Block, nil, skip, act, branch, while, times, size}
use Rattle.model.specs.Runs.{Step, overran, variables_after, Run, ◌⊳◌, run}
use Rattle.theory.proofs.{Sequences.⊳-assoc}
use Rattle.reading.specs.{Closing.closes_block, Ranges.first_size, Ranges.after_first, Walks.StatementAt}
use Rattle.reading.proofs.{Filled.size_first, Filled.fills_none, Standing.stands_closed, Walking.some, Walking.behind}
use Rattle.stepping.specs.declared.{progress.Place.Place, progress.Halt.Halt, store.Store.Store}
use Rattle.stepping.specs.Machines.{Machine, does, runs}
use Rattle.stepping.specs.Steps.{going, reached, Ran}
use Rattle.running.specs.Promises.{extent, passed, is_loop, Pending, at_end, and_behind, first_run, after, ahead, along}
use Rattle.running.specs.Promises.{Given, Begun, Statement, RecordsRan, Running, Moved, StepsRan, Past, StatementRan}
use Rattle.running.proofs.Doing.{runs_within, runs_on, runs_halted}
use Rattle.running.proofs.Sides.{pending_within, pending_inside, pending_at, pending_none, every_chain}

-- WHAT AN ANSWER SAYS

pub runs_same : (limit : ℕ) {f g : Run} (m : Machine) → ((v : List ℕ) → f v ≡ g v) → runs limit f m ≡ runs limit g m
unfolding runs
runs_same limit m h = ap (λ (es : List Step). does limit es m) (h m.holds.variables)

-- an answer that has halted does not go on
pub never : {A : Type 0} {r : Result Place Halt} {h : Halt} {p : Place} → r ≡ Err h → r ≡ Ok p → A
never e g = let x : ⊥ = cc in absurd x

abbrev halted : Result Place Halt → Bool
halted (Ok p) = false
halted (Err h) = true

reached_halted : (r : Result Place Halt) (w : Store) → ((reached r w).cut || (reached r w).overran) ≡ halted r
reached_halted (Ok p) w = refl
reached_halted (Err (Halt.Cut t)) w = refl
reached_halted (Err (Halt.Overran t)) w = refl

-- what an answer goes on to
place_is : {p q : Place} → ◌≡◌ {A = Result Place Halt} (Ok p) (Ok q) → p ≡ q
place_is e = cc

pub next_is : {p q : Place} → ◌≡◌ {A = Result Place Halt} (Ok p) (Ok q) → q.next ≡ p.next
next_is e = ap (λ (x : Place). x.next) (sym (place_is e))

-- the place at tick t, before the record j
abbrev pub onward : ℕ → ℕ → Result Place Halt
onward t j = Ok (record { tick = t; next = j })

abbrev pub cut_at : ℕ → Result Place Halt
cut_at t = Err (Halt.Cut t)

module _ {limit : ℕ} {f : Run} {j t : ℕ} {old new : Store} {r : Result Place Halt} (R : Ran limit f j t old new r) where
  halts : ((runs limit f (going t old)).cut || (runs limit f (going t old)).overran) ≡ halted r
  halts = ap (λ (m : Machine). m.cut || m.overran) (sym R.reaches) ∙ reached_halted r new

  reaches_at : {p : Place} → r ≡ Ok p → runs limit f (going t old) ≡ going p.tick new
  reaches_at e = sym R.reaches ∙ ap (λ (x : Result Place Halt). reached x new) e

  pub ran_early : t ≤ limit → {p : Place} → r ≡ Ok p → p.tick ≤ limit
  ran_early h e = subst (λ (m : Machine). m.tick ≤ limit) (reaches_at e) (runs_within limit f (going t old) h)

  -- what follows is run from where it goes on, or not at all
  pub ran_on : (g : Run) {p : Place} → r ≡ Ok p → runs limit (f ⊳ g) (going t old) ≡ runs limit g (going p.tick new)
  ran_on g e = runs_on limit f g (going t old) refl (halts ∙ ap halted e) ∙ ap (runs limit g) (reaches_at e)

  pub ran_halted : (g : Run) (k : ℕ) {h : Halt} → r ≡ Err h → Ran limit (f ⊳ g) k t old new r
  ran_halted g k e = record {
    reaches = R.reaches ∙ sym (runs_halted limit f g (going t old) refl (halts ∙ ap halted e));
    goes = λ p o. never e o;
  }

-- the same from another start
pub ran_from : {limit : ℕ} {f g : Run} {j k t u : ℕ} {old mid new : Store} {r : Result Place Halt}
    → runs limit f (going t old) ≡ runs limit g (going u mid) → ((p : Place) → r ≡ Ok p → k ≡ j) → Ran limit g k u mid new r → Ran limit f j t old new r
ran_from e h R = record { reaches = R.reaches ∙ sym e; goes = λ p o. R.goes p o ∙ h p o }

-- an answer that has halted is one for all that was left
module _ {s : List ℕ} {i to : ℕ} {ends : List ℕ} {σ : Settings} {ins : List ℕ} {limit t : ℕ} {old new : Store} {h : Halt}
    (R : RecordsRan s i to σ ins limit t old new (Err h)) where
  moved_halted : Moved s i to ends σ ins limit t old new (Err h)
  moved_halted = record { halts = λ x e. R; goes = λ p e. never refl e }

  pub steps_halted : StepsRan s i to ends σ ins limit t old new (Err h)
  steps_halted = record { moved = moved_halted; stops = λ p e l. never refl e }

  pub past_halted : Past s i to ends σ ins limit t old new (Err h)
  past_halted = record { moved = moved_halted; on = λ p e. never refl e }

-- THE FIRST STATEMENT, AND WHAT FOLLOWS IT

run_first : (σ : Settings) (ins : List ℕ) (b : Block) (i : ℕ) → 1 ≤ first_size b
    → (v : List ℕ) → run σ ins b i v ≡ (first_run σ ins b i ⊳ run σ ins (after_first b) (i + first_size b)) v
run_first σ ins nil i h v = absurd (omega arith)
run_first σ ins (skip n b) i h v = refl
run_first σ ins (act p b) i h v = refl
run_first σ ins (branch q a d b) i h v = let e : i + 3 + size a + size d ≡ i + (3 + size a + size d) = omega arith in
    ap (λ (k : ℕ). (first_run σ ins (branch q a d b) i ⊳ run σ ins b k) v) e
run_first σ ins (while q n a b) i h v = let e : i + 2 + size a ≡ i + (2 + size a) = omega arith in ap (λ (k : ℕ). (first_run σ ins (while q n a b) i ⊳ run σ ins b k) v) e
run_first σ ins (times q n a b) i h v = let e : i + 2 + size a ≡ i + (2 + size a) = omega arith in ap (λ (k : ℕ). (first_run σ ins (times q n a b) i ⊳ run σ ins b k) v) e

ahead_first : (σ : Settings) (ins s : List ℕ) (b : Block) (i : ℕ) (bs : List Block) → 1 ≤ first_size b
    → (v : List ℕ) → ahead σ ins s i b bs v ≡ (first_run σ ins b i ⊳ ahead σ ins s (i + first_size b) (after_first b) bs) v
ahead_first σ ins s b i bs h v =
    let e : i + size b ≡ i + first_size b + size (after_first b) = omega (arith, size_first b) in
    let next = run σ ins (after_first b) (i + first_size b) in
    ap (λ (es : List Step). es ++ cond (overran es) [] (after σ ins s (i + size b) bs (variables_after es v))) (run_first σ ins b i h v)
    ∙ ap (λ (k : ℕ). ((first_run σ ins b i ⊳ next) ⊳ after σ ins s k bs) v) e
    ∙ ⊳-assoc (first_run σ ins b i) next (after σ ins s (i + first_size b + size (after_first b)) bs) v

-- WHAT IS BEGUN

-- at another tick
pub given_at : {s ends ins : List ℕ} {limit t u : ℕ} → Given s ends ins limit t → u ≤ limit → Given s ends ins limit u
given_at G h = record { few = G.few; table = G.table; inputs = G.inputs; early = h }

module _ {s : List ℕ} {i to : ℕ} {ends ins : List ℕ} {limit t : ℕ} (B : Begun s i to ends ins limit t) where
  -- the records up to `to` are the file's
  pub running_inside : to ≤ extent s
  running_inside = pending_inside B.chain.file.stands.ends B.chain.follows

  -- an ELSE or END goes on
  pub running_passed : {n : ℕ} → i < to → closes_block (kind_at s i) ≡ true → n ≡ passed s i → i < n
  running_passed {n} l k h = go (pending_at (omega (arith, ap size (stands_closed B.chain.file.block B.chain.file.stands k))) B.chain.follows)
    where
      go : {bs : List Block} → Pending B.form s to i bs → i < n
      go (at_end e) = absurd (omega arith)
      go (and_behind b p) = omega (arith, b.on)

-- THE TURNS OF THE LOOP

pub running_start : {s : List ℕ} {from to : ℕ} {ends : List ℕ} {σ : Settings} {ins : List ℕ} {limit t : ℕ} {w : Store} → Begun s from to ends ins limit t
    → Running s from to ends σ ins limit t w w t from
running_start B = record { all = B; rest = B; on = omega arith; same = refl }

module _ {s : List ℕ} {from to : ℕ} {ends : List ℕ} {σ : Settings} {ins : List ℕ} {limit t₀ : ℕ} {old w : Store} {t next : ℕ} (P : Running s from to ends σ ins limit t₀ old w t next) where
  abbrev pub whole : Run
  whole = along σ ins P.all.chain

  abbrev pub left : Block
  left = P.rest.chain.file.block

  abbrev pub others : List Block
  others = P.rest.chain.pending

  -- what holds of the blocks that were asked about holds of all at their place
  pub answered : {new : Store} {r : Result Place Halt} → Ran limit whole to t₀ old new r → RecordsRan s from to σ ins limit t₀ old new r
  answered {new} {r} A = record {
    right = λ f C. every_chain (λ (b : Block) (bs : List Block). Ran limit (ahead σ ins s from b bs) to t₀ old new r) P.all.chain A C;
  }

  running_within : next ≤ to
  running_within = omega (arith, pending_within P.rest.chain.follows)

  -- NOTHING IS LEFT OF A BLOCK

  module _ (e : left ≡ nil) where
    follows_here : Pending P.rest.form s to next others
    follows_here = pending_at (omega (arith, ap size e)) P.rest.chain.follows

    same_here : runs limit whole (going t₀ old) ≡ runs limit (after σ ins s next others) (going t w)
    same_here =
        P.same ∙ ap (λ (b : Block). runs limit (ahead σ ins s next b others) (going t w)) e
        ∙ runs_same limit (going t w) (λ v. ap (λ (k : ℕ). after σ ins s k others v) (add-zero next))

  all_done : to ≤ next → going t w ≡ runs limit whole (going t₀ old)
  unfolding runs
  all_done l =
      let e = fills_none left P.rest.chain.file.stands.fills (omega (arith, pending_within P.rest.chain.follows)) in
      sym (same_here e ∙ ap (λ (bs : List Block). runs limit (after σ ins s next bs) (going t w)) (pending_none (follows_here e) l))

  pub running_ended : to ≤ next → RecordsRan s from to σ ins limit t₀ old w (onward t next)
  running_ended l = answered (record { reaches = all_done l; goes = λ p o. next_is o ∙ omega (arith, running_within) })

  -- the ELSE or END of an IF: what follows the IF is next
  pub running_closed : {n : ℕ} → next < to → closes_block (kind_at s next) ≡ true → n ≡ passed s next → Running s from to ends σ ins limit t₀ old w t n
  running_closed l k h = subst (Running s from to ends σ ins limit t₀ old w t) (sym h) (go (follows_here nothing_left) (same_here nothing_left))
    where
      nothing_left : left ≡ nil
      nothing_left = stands_closed left P.rest.chain.file.stands k

      go : {bs : List Block} → Pending P.rest.form s to next bs → runs limit whole (going t₀ old) ≡ runs limit (after σ ins s next bs) (going t w)
          → Running s from to ends σ ins limit t₀ old w t (passed s next)
      go (at_end h) e = absurd (omega arith)
      go (and_behind {b = b} {bs = bs} B p) e = record {
        all = P.all;
        rest = record {
          given = P.rest.given;
          form = P.rest.form;
          chain = record { file = record { block = b; stands = B.stands; inside = omega arith }; pending = bs; follows = p };
        };
        on = omega (arith, P.on, B.on);
        same = e;
      }

  -- WHAT IS LEFT IS RUN

  pub running_ran : {new : Store} {r : Result Place Halt} → RecordsRan s next to σ ins limit t w new r → RecordsRan s from to σ ins limit t₀ old new r
  running_ran R = answered (ran_from P.same (λ p o. refl) (R.right P.rest.form P.rest.chain))

  pub running_then : {new : Store} {u k : ℕ} → Running s next to ends σ ins limit t w new u k → Running s from to ends σ ins limit t₀ old new u k
  running_then Q = record {
    all = P.all;
    rest = Q.rest;
    on = omega (arith, P.on, Q.on);
    same = every_chain (λ (b : Block) (bs : List Block). runs limit whole (going t₀ old) ≡ runs limit (ahead σ ins s next b bs) (going t w))
        P.rest.chain P.same Q.all.chain ∙ Q.same;
  }

  -- as an answer
  moved_going : Moved s from to ends σ ins limit t₀ old w (onward t next)
  moved_going = record { halts = λ h e. never e refl; goes = λ p e. subst (λ (q : Place). Running s from to ends σ ins limit t₀ old w q.tick q.next) (place_is e) P }

  pub steps_going : (next < to → is_loop (kind_at s next) ≡ true) → StepsRan s from to ends σ ins limit t₀ old w (onward t next)
  steps_going b = record {
    moved = moved_going;
    stops = λ p e. subst (λ (q : Place). q.next < to → is_loop (kind_at s q.next) ≡ true) (place_is e) b;
  }

  pub past_going : from < next → Past s from to ends σ ins limit t₀ old w (onward t next)
  past_going b = record { moved = moved_going; on = λ p e. subst (λ (q : Place). from < q.next) (place_is e) b }

  -- A STATEMENT IS LEFT

  module _ (l : next < to) (k : closes_block (kind_at s next) ≡ false) where
    abbrev pub here : StatementAt P.rest.form s next (extent s)
    here = record { file = P.rest.chain.file; early = omega (arith, running_inside P.rest); goes_on = k }

    pub statement_next : Statement s next ends ins limit t
    statement_next = record { given = P.rest.given; form = P.rest.form; at = here }

    abbrev pub onwards : Run
    onwards = ahead σ ins s (next + first_size left) (after_first left) others

    pub split : runs limit whole (going t₀ old) ≡ runs limit (first_run σ ins left next ⊳ onwards) (going t w)
    split = P.same ∙ runs_same limit (going t w) (ahead_first σ ins s left next others (some here))

    module _ {new : Store} {r : Result Place Halt} (S : StatementRan s next σ ins limit t w new r) where
      step : Ran limit (first_run σ ins left next) (next + first_size left) t w new r
      step = S.right P.rest.form here

      running_halted : (h : Halt) → r ≡ Err h → RecordsRan s from to σ ins limit t₀ old new r
      running_halted h e = answered (ran_from split (λ p o. never e o) (ran_halted step onwards 0 e))

      module _ {p : Place} (e : r ≡ Ok p) where
        goes : p.next ≡ next + first_size left
        goes = step.goes p e

        running_on : next < p.next
        running_on = omega (arith, goes, some here)

        running_next : Running s from to ends σ ins limit t₀ old new p.tick p.next
        running_next = record {
          all = P.all;
          rest = record {
            given = given_at P.rest.given (ran_early step P.rest.given.early e);
            form = P.rest.form;
            chain = record { file = behind here goes; pending = others; follows = pending_at (omega (arith, goes, size_first left)) P.rest.chain.follows };
          };
          on = omega (arith, P.on, running_on);
          same = split ∙ ran_on step onwards e ∙ ap (λ (j : ℕ). runs limit (ahead σ ins s j (after_first left) others) (going p.tick new)) (sym goes);
        }

      -- as an answer
      pub past_ran : Past s from to ends σ ins limit t₀ old new r
      past_ran = record { moved = record { halts = running_halted; goes = λ p e. running_next e }; on = λ p e. omega (arith, P.on, running_on e) }
