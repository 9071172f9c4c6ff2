-- The machine on lists of steps: one list after another, a run that goes on or has halted, tests, and what the model's runs say of it.
use Prim.Native.Nat.{ℕ, zero, suc, ◌+◌, ◌-◌, ◌≤◌, ◌<◌}
use native.Mathlib.{Omega.arith, Nat.add-zero, Nat.add_assoc}
use mathlib.Core.Path.{◌≡◌, refl, ap, sym, subst, ◌∙◌}
use mathlib.Core.Bool.{Bool, true, false, cond, ◌||◌, or-false, or_assoc}
use mathlib.Core.List.{List, [], ◌∷◌, ◌++◌, append-nil}
use lib.Dec.{leb, ltb}
use borrow.Author.Tests.{leb-true, leb-false, le-leb, lt-leb, le-ltb, lt-ltb, ltb-true, ltb-false}
use Rattle.model.specs.{Trees.Test, Stopping.upto, Stopping.last_image}
use Rattle.model.specs.Runs.{nothing, is_overrun, Step, step, duration, variables_after, outputs_after, level, mark, overran, holds, Run, ◌⊳◌, choose, spin, rounds}
use Rattle.laws.proofs.Shapes.{neither}
use Rattle.stepping.specs.Machines.{Held, affect, Machine, machine, acted, cut_off, turn, does, runs}

-- both sides less the same
ltb_less : (c d n : ℕ) → d ≤ c → ltb c (d + n) ≡ ltb (c - d) n
ltb_less c d n l = go (ltb (c - d) n) refl
  where
    go : (o : Bool) → ltb (c - d) n ≡ o → ltb c (d + n) ≡ o
    go true k = lt-ltb c (d + n) (omega (arith, ltb-true (c - d) n k))
    go false k = le-ltb c (d + n) (omega (arith, ltb-false (c - d) n k))

-- rounds of nothing
pub rounds_nothing : (n : ℕ) (v : List ℕ) → rounds n (λ w. []) v ≡ []
rounds_nothing zero v = refl
rounds_nothing (suc n) v = rounds_nothing n v

-- a test, and what follows both sides
pub choose_then : (i : ℕ) (q : Test) (f g h : Run) (v : List ℕ) → (choose i q f g ⊳ h) v ≡ choose i q (f ⊳ h) (g ⊳ h) v
choose_then i q f g h v = go (holds q v)
  where
    go : (o : Bool)
        → (let es = step 1 i nothing ∷ cond o (f v) (g v) in es ++ cond (overran es) [] (h (variables_after es v)))
        ≡ step 1 i nothing ∷ cond o ((f ⊳ h) v) ((g ⊳ h) v)
    go true = refl
    go false = refl

-- what steps leave of what is held
abbrev pub held_after : List Step → ℕ → Held → Held
held_after es t h = record {
  variables = variables_after es h.variables;
  levels = outputs_after level es h.levels;
  marks = outputs_after mark es h.marks;
  image = last_image es t h.variables h.image;
}

module _ (limit : ℕ) where
  -- ONE LIST AFTER ANOTHER

  does-++ : (xs ys : List Step) (m : Machine) → does limit (xs ++ ys) m ≡ does limit ys (does limit xs m)
  does-++ [] ys m = refl
  does-++ (e ∷ xs) ys m = does-++ xs ys (turn limit e m)

  -- a machine that was cut does nothing more
  does_cut : (es : List Step) (m : Machine) → m.cut ≡ true → does limit es m ≡ m
  does_cut [] m c = refl
  does_cut (e ∷ es) m c = ap (does limit es) (turn_cut e m c) ∙ does_cut es m c
    where
      turn_cut : (e : Step) (m : Machine) → m.cut ≡ true → turn limit e m ≡ m
      turn_cut e m c = rw c

  -- one that is not cut was not before
  not_cut : (es : List Step) (m : Machine) → (does limit es m).cut ≡ false → m.cut ≡ false
  not_cut es m d = go m.cut refl
    where
      go : (o : Bool) → m.cut ≡ o → m.cut ≡ false
      go false c = c
      go true c = rw (does_cut es m c) at d

  -- and its step has acted
  has_acted : (e : Step) (m : Machine) → (turn limit e m).cut ≡ false → turn limit e m ≡ acted e m
  has_acted e m = go m.cut refl (leb (m.tick + e.lasts) limit)
    where
      go : (o : Bool) → m.cut ≡ o → (l : Bool) → (cond o m (cond l (acted e m) (cut_off m))).cut ≡ false → cond o m (cond l (acted e m) (cut_off m)) ≡ acted e m
      go true c l d = cc
      go false c true d = refl
      go false c false d = cc

  -- so it has done all
  pub record Done (es : List Step) (m n : Machine) : Type 0 where
    pub tick : n.tick ≡ m.tick + duration es
    pub overran_too : n.overran ≡ (m.overran || overran es)
    pub variables : n.holds.variables ≡ variables_after es m.holds.variables

  pub done : (es : List Step) (m : Machine) → (does limit es m).cut ≡ false → Done es m (does limit es m)
  done [] m d = record { tick = omega arith; overran_too = sym (or-false m.overran); variables = refl }
  done (e ∷ es) m d =
      let a = has_acted e m (not_cut es (turn limit e m) d) in
      let p = done es (acted e m) (subst (λ (n : Machine). (does limit es n).cut ≡ false) a d) in
      subst (λ (n : Machine). Done (e ∷ es) m (does limit es n)) (sym a)
      (record { tick = omega (arith, p.tick); overran_too = p.overran_too ∙ or_assoc m.overran (is_overrun e.does) (overran es); variables = p.variables })

  pub within : (es : List Step) (m : Machine) → m.tick ≤ limit → (does limit es m).tick ≤ limit
  within [] m l = l
  within (e ∷ es) m l = within es (turn limit e m) (go m.cut (leb (m.tick + e.lasts) limit) refl)
    where
      go : (o b : Bool) → leb (m.tick + e.lasts) limit ≡ b → (cond o m (cond b (acted e m) (cut_off m))).tick ≤ limit
      go true b k = l
      go false true k = leb-true (m.tick + e.lasts) limit k
      go false false k = l

  -- ONE RUN AFTER ANOTHER

  pub runs_within : (f : Run) (m : Machine) → m.tick ≤ limit → (runs limit f m).tick ≤ limit
  unfolding runs
  runs_within f m = within (f m.holds.variables) m

  pub runs_on : (f g : Run) (m : Machine) → m.overran ≡ false → ((runs limit f m).cut || (runs limit f m).overran) ≡ false
      → runs limit (f ⊳ g) m ≡ runs limit g (runs limit f m)
  unfolding runs
  runs_on f g m o h =
      let es = f m.holds.variables in
      let c : (does limit es m).cut ≡ false = (neither (does limit es m).cut (does limit es m).overran h).0 in
      let d = done es m c in
      let no : overran es ≡ false = rw o at (sym d.overran_too ∙ rw c at h) in
      rw no (does-++ es (g (variables_after es m.holds.variables)) m ∙ ap (λ (v : List ℕ). does limit (g v) (does limit es m)) (sym d.variables))

  pub runs_halted : (f g : Run) (m : Machine) → m.overran ≡ false → ((runs limit f m).cut || (runs limit f m).overran) ≡ true
      → runs limit (f ⊳ g) m ≡ runs limit f m
  unfolding runs
  runs_halted f g m o h = go (does limit es m).cut refl
    where
      es : List Step
      es = f m.holds.variables

      more : List Step
      more = g (variables_after es m.holds.variables)

      go : (b : Bool) → (does limit es m).cut ≡ b → does limit (es ++ cond (overran es) [] more) m ≡ does limit es m
      go true c = does-++ es (cond (overran es) [] more) m ∙ does_cut (cond (overran es) [] more) (does limit es m) c
      go false c =
          let yes : overran es ≡ true = rw o at (sym (done es m c).overran_too ∙ rw c at h) in
          rw (yes, append-nil es)

  -- TESTS, from tick t

  module _ (t : ℕ) (h : Held) where
    abbrev here : Machine
    here = machine t false false h

    -- the test of an IF or a WHILE, and what follows it
    tested_cut : (i : ℕ) (es : List Step) → limit ≤ t → does limit (step 1 i nothing ∷ es) here ≡ machine t true false h
    tested_cut i es l = rw (lt-leb (t + 1) limit (omega arith)) (does_cut es (machine t true false h) refl)

    tested : (i : ℕ) (es : List Step) → t < limit → does limit (step 1 i nothing ∷ es) here ≡ does limit es (machine (t + 1) false false h)
    tested i es l = rw (le-leb (t + 1) limit (omega arith))

    module _ (i : ℕ) (q : Test) (f g : Run) where
      pub choose_cut : limit ≤ t → runs limit (choose i q f g) here ≡ machine t true false h
      unfolding runs
      choose_cut = tested_cut i (cond (holds q h.variables) (f h.variables) (g h.variables))

      pub choose_first : t < limit → holds q h.variables ≡ true → runs limit (choose i q f g) here ≡ runs limit f (machine (t + 1) false false h)
      unfolding runs
      choose_first l y = rw y (tested i (f h.variables) l)

      pub choose_second : t < limit → holds q h.variables ≡ false → runs limit (choose i q f g) here ≡ runs limit g (machine (t + 1) false false h)
      unfolding runs
      choose_second l n = rw n (tested i (g h.variables) l)

    module _ (i n : ℕ) (q : Test) (f : Run) where
      pub spin_cut : limit ≤ t → runs limit (spin i (suc n) q f) here ≡ machine t true false h
      unfolding runs
      spin_cut = tested_cut i (cond (holds q h.variables) ((f ⊳ spin i n q f) h.variables) [])

      pub spin_end : t < limit → holds q h.variables ≡ false → runs limit (spin i (suc n) q f) here ≡ machine (t + 1) false false h
      unfolding runs
      spin_end l e = rw e (tested i [] l)

      pub spin_round : t < limit → holds q h.variables ≡ true → runs limit (spin i (suc n) q f) here ≡ runs limit (f ⊳ spin i n q f) (machine (t + 1) false false h)
      unfolding runs
      spin_round l y = rw y (tested i ((f ⊳ spin i n q f) h.variables) l)

  -- WHAT THE MODEL'S RUNS SAY

  -- stopped at the limit, a run has done the steps that end by then
  abbrev pub CutAt : List Step → ℕ → Bool → Held → Type 0
  CutAt es t o h =
      does limit es (machine t false o h)
      ≡ machine (t + duration (upto (limit - t) es)) (ltb (limit - t) (duration es)) (o || overran (upto (limit - t) es)) (held_after (upto (limit - t) es) t h)

  pub does_upto : (es : List Step) (t : ℕ) (o : Bool) (h : Held) → t ≤ limit → CutAt es t o h
  does_upto [] t o h l = rw (le-ltb (limit - t) 0 (omega arith), or-false o, add-zero t)
  does_upto (e ∷ es) t o h l = go (leb (t + e.lasts) limit) refl (does_upto es (t + e.lasts) (o || is_overrun e.does) h')
    where
      h' : Held
      h' = affect (e.index + 1) (t + e.lasts) e.does h

      go : (b : Bool) → leb (t + e.lasts) limit ≡ b → (t + e.lasts ≤ limit → CutAt es (t + e.lasts) (o || is_overrun e.does) h') → CutAt (e ∷ es) t o h
      go true k ih =
          let n = leb-true (t + e.lasts) limit k in
          let d : e.lasts ≤ limit - t = omega arith in
          let left : limit - t - e.lasts ≡ limit - (t + e.lasts) = omega arith in
          let ds = upto (limit - (t + e.lasts)) es in
          rw (k, le-leb e.lasts (limit - t) d, ltb_less (limit - t) e.lasts (duration es) d, left)
          (rw (add_assoc t e.lasts (duration ds), or_assoc o (is_overrun e.does) (overran ds)) at (ih n))
      go false k ih =
          let n = leb-false (t + e.lasts) limit k in
          rw (k, lt-leb e.lasts (limit - t) (omega arith), lt-ltb (limit - t) (e.lasts + duration es) (omega arith), add-zero t, or-false o)
          (does_cut es (machine t true o h) refl)
