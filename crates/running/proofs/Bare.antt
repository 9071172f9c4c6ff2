-- A machine without its image does not tell apart steps that differ in the indices of their records, so the blocks that are left are run as one block.
use Prim.Native.Nat.{ℕ, ◌+◌}
use mathlib.Core.Path.{◌≡◌, refl, ap, sym, ◌∙◌}
use mathlib.Core.Bool.{Bool, true, false, cond}
use mathlib.Core.List.{List, [], ◌∷◌}
use lib.Dec.{leb}
use Rattle.model.specs.declared.Settings.{Settings}
use Rattle.model.specs.{Trees.Block, Trees.◌⧺◌, Trees.size, Stopping.none}
use Rattle.model.specs.Runs.{Step, step, Run, run}
use Rattle.theory.proofs.{Sequences.run-⧺, Unindexed.unindexed}
use Rattle.theory.proofs.Views.{see, Alike, alike_refl, alike_sym, alike_trans, alike_eq, alike-⊳, alike_move}
use Rattle.stepping.specs.Machines.{Machine, machine, acted, cut_off, turn, does, runs}
use Rattle.running.specs.Promises.{passed, after, ahead}
use Rattle.running.proofs.Positions.{joined}

-- a machine but for its image, which taking up does not write
abbrev pub bare : Machine → Machine
bare m = machine m.tick m.cut m.overran (record { variables = m.holds.variables; levels = m.holds.levels; marks = m.holds.marks; image = none })

-- BLOCKS ONE AFTER ANOTHER

module _ (σ : Settings) (ins s : List ℕ) where
  then_joined : (b : Block) (bs : List Block) (i j : ℕ) → Alike unindexed (after σ ins s (i + size b) bs) (run σ ins (joined bs) (j + size b))
      → Alike unindexed (ahead σ ins s i b bs) (run σ ins (b ⧺ joined bs) j)
  then_joined b bs i j a = alike_trans (alike-⊳ (alike_move σ ins b i j) a) (alike_sym (alike_eq (run-⧺ σ ins b (joined bs) j)))

  after_joined : (bs : List Block) (k j : ℕ) → Alike unindexed (after σ ins s k bs) (run σ ins (joined bs) j)
  after_joined [] k j = alike_refl
  after_joined (b ∷ bs) k j = then_joined b bs (passed s k) j (after_joined bs (passed s k + size b) (j + size b))

  pub ahead_joined : (b : Block) (bs : List Block) (i j : ℕ) → Alike unindexed (ahead σ ins s i b bs) (run σ ins (b ⧺ joined bs) j)
  ahead_joined b bs i j = then_joined b bs i j (after_joined bs (i + size b) (j + size b))

-- STEPS

module _ (limit : ℕ) where
  turn_bare : (e : Step) (m : Machine) → bare (turn limit e m) ≡ bare (turn limit (step e.lasts 0 e.does) (bare m))
  turn_bare e m = go m.cut (leb (m.tick + e.lasts) limit)
    where
      go : (c o : Bool)
          → bare (cond c m (cond o (acted e m) (cut_off m)))
          ≡ bare (cond c (bare m) (cond o (acted (step e.lasts 0 e.does) (bare m)) (cut_off (bare m))))
      go true o = refl
      go false true = refl
      go false false = refl

  does_see : (es : List Step) (m n : Machine) → bare m ≡ bare n → bare (does limit es m) ≡ bare (does limit (see unindexed es) n)
  does_see [] m n e = e
  does_see (x ∷ es) m n e =
      does_see es (turn limit x m) (turn limit (step x.lasts 0 x.does) n)
      (turn_bare x m ∙ ap (λ (k : Machine). bare (turn limit (step x.lasts 0 x.does) k)) e ∙ sym (turn_bare (step x.lasts 0 x.does) n))

  does_bare : (xs ys : List Step) (m n : Machine) → see unindexed xs ≡ see unindexed ys → bare m ≡ bare n → bare (does limit xs m) ≡ bare (does limit ys n)
  does_bare xs ys m n s e = does_see xs m n e ∙ ap (λ (es : List Step). bare (does limit es n)) s ∙ sym (does_see ys n n refl)

  pub runs_bare : (f g : Run) (m : Machine) → Alike unindexed f g → bare (runs limit f m) ≡ bare (runs limit g m)
  unfolding runs
  runs_bare f g m a = does_bare (f m.holds.variables) (g m.holds.variables) m m (a.at m.holds.variables) refl
