-- After each step of a block with no loop, what is left to do: nothing after an overrun, and after a SAVE what taking up does.
use Prim.Native.Nat.{ℕ, suc, ◌+◌, ◌-◌, ◌≤◌}
use native.Mathlib.{Omega.arith, Nat.add-zero}
use mathlib.Core.{Path.◌≡◌, Path.refl, Path.sym, Bool.true, Bool.false, Bool.false≢true, List.List, List.[]}
use borrow.Author.Tests.{lt-leb, le-leb}
use Rattle.model.specs.declared.Settings.{Settings}
use Rattle.model.specs.Trees.{Test, Act, set, read, write, check, beat, save, Block, nil, skip, act, branch, while, times, ◌⧺◌, size}
use Rattle.model.specs.{Times.ticks, Stopping.rest, Placement.LoopFree}
use Rattle.model.specs.Runs.{Effect, nothing, assigns, outputs, beats, saves, overruns, is_save, is_overrun, Step, step}
use Rattle.model.specs.Runs.{on_variables, effect, Run, ◌⊳◌, run}
use Rattle.theory.proofs.{Sequences.⊳-assoc, Sequences.⊳-nil, Sequences.run-⧺, Unindexed.unindexed}
use Rattle.theory.proofs.Views.{see, Alike, alike_refl, alike_trans, alike_eq, alike-⊳, alike_move}
use Rattle.theory.proofs.Every.{Every, every_nil, every_single, every_choose}

-- an overrun is the last step, of one tick; after a SAVE, R at the next record does what is left
pub record Goes (R : ℕ → Run) (e : Step) (v : List ℕ) (es : List Step) : Type 0 where
  pub ends : is_overrun e.does ≡ true → es ≡ []
  pub one : is_overrun e.does ≡ true → e.lasts ≡ 1
  pub resumes : is_save e.does ≡ true → see unindexed (R (e.index + 1) (on_variables e.does v)) ≡ see unindexed es

idle : (R : ℕ → Run) (d i : ℕ) (v : List ℕ) (es : List Step) → Goes R (step d i nothing) v es
idle R d i v es = record { ends = λ x. absurd (false≢true x); one = λ x. absurd (false≢true x); resumes = λ x. absurd (false≢true x) }

-- a SAVE is no overrun
pub save_calm : (d : Effect) → is_save d ≡ true → is_overrun d ≡ false
save_calm nothing p = refl
save_calm (assigns a x) p = refl
save_calm (outputs q x) p = refl
save_calm (beats x) p = refl
save_calm (saves m) p = refl
save_calm overruns p = absurd (false≢true p)

-- only a test overruns
overrun_one : (σ : Settings) (ins : List ℕ) (p : Act) (v : List ℕ) → is_overrun (effect ins p v) ≡ true → ticks σ p ≡ 1
unfolding effect
overrun_one σ ins (set o t l x) v e = absurd (false≢true e)
overrun_one σ ins (read a p) v e = absurd (false≢true e)
overrun_one σ ins (write a p) v e = absurd (false≢true e)
overrun_one σ ins (check q) v e = refl
overrun_one σ ins (beat x) v e = absurd (false≢true e)
overrun_one σ ins (save m) v e = absurd (false≢true e)

pub rest_0 : (b : Block) → rest b 0 ≡ b
rest_0 nil = refl
rest_0 (skip n b) = refl
rest_0 (act p b) = refl
rest_0 (branch q a d b) = refl
rest_0 (while q n a b) = refl
rest_0 (times q n a b) = refl

module _ (σ : Settings) (ins : List ℕ) (R : ℕ → Run) where
  -- b stands at record i, and then comes g: R at each of its records does what is left of b, and then g
  record Continues (i : ℕ) (b : Block) (g : Run) : Type 0 where
    at : (j : ℕ) → j ≤ size b → Alike unindexed (R (i + j)) (run σ ins (rest b j) (i + j) ⊳ g)

  -- a part and the block after it, and then g: the part, and then the block and g
  apart : (r : Run) (a b : Block) (i k : ℕ) (g : Run) → Alike unindexed r (run σ ins (a ⧺ b) i ⊳ g) → Alike unindexed r (run σ ins a i ⊳ (run σ ins b k ⊳ g))
  apart r a b i k g e =
      let f = run σ ins a i in
      let both : Alike unindexed (run σ ins (a ⧺ b) i) (f ⊳ run σ ins b k) = alike_trans (alike_eq (run-⧺ σ ins a b i)) (alike-⊳ {f = f} {f' = f} alike_refl (alike_move σ ins b (i + size a) k)) in
      alike_trans e (alike_trans (alike-⊳ {g = g} {g' = g} both alike_refl) (alike_eq (⊳-assoc f (run σ ins b k) g)))

  continues_here : (i : ℕ) (b : Block) (g : Run) → Continues i b g → Alike unindexed (R i) (run σ ins b i ⊳ g)
  continues_here i b g c = rw (rest_0 b, add-zero i) at (c.at 0 (omega arith))

  -- after a record that is no IF
  continues_tail : (i : ℕ) (s b : Block) (g : Run) → size s ≡ 1 + size b → ((j : ℕ) → rest s (suc j) ≡ rest b j) → Continues i s g → Continues (i + 1) b g
  continues_tail i s b g n r c = record { at = λ j l. let e : i + 1 + j ≡ i + suc j = omega arith in rw (e, ← r j) (c.at (suc j) (omega arith)) }

  module _ (i : ℕ) (q : Test) (a d b : Block) (g : Run) (c : Continues i (branch q a d b) g) where
    continues_then : (k : ℕ) → Continues (i + 1) a (run σ ins b k ⊳ g)
    continues_then k = record {
      at = λ j l.
          let e : i + 1 + j ≡ i + suc j = omega arith in
          rw e (apart (R (i + suc j)) (rest a j) b (i + suc j) k g (rw (le-leb j (size a) l) at (c.at (suc j) (omega arith))));
    }

    continues_else : (k : ℕ) → Continues (i + 2 + size a) d (run σ ins b k ⊳ g)
    continues_else k = record {
      at = λ j l.
          let n = 1 + size a + j in
          let e : i + 2 + size a + j ≡ i + suc n = omega arith in
          let y : n - (1 + size a) ≡ j = omega arith in
          rw e (apart (R (i + suc n)) (rest d j) b (i + suc n) k g
          (rw (lt-leb n (size a) (omega arith), le-leb n (1 + size a + size d) (omega arith), y) at (c.at (suc n) (omega arith))));
    }

    continues_after : Continues (i + 3 + size a + size d) b g
    continues_after = record {
      at = λ j l.
          let n = 2 + size a + size d + j in
          let e : i + 3 + size a + size d + j ≡ i + suc n = omega arith in
          let y : n - (2 + size a + size d) ≡ j = omega arith in
          rw e (rw (lt-leb n (size a) (omega arith), lt-leb n (1 + size a + size d) (omega arith), y) at (c.at (suc n) (omega arith)));
    }

  -- every step of b, and then of g
  goes-⊳ : (b : Block) (i : ℕ) (g : Run) → LoopFree b → Continues i b g → ((v : List ℕ) → Every (Goes R) (g v) v) → (v : List ℕ)
      → Every (Goes R) ((run σ ins b i ⊳ g) v) v
  goes-⊳ nil i g u c h v = h v
  goes-⊳ (skip n b) i g u c h v = (idle R n i v _, goes-⊳ b (i + 1) g u (continues_tail i (skip n b) b g refl (λ j. refl) c) h v)
  goes-⊳ (act p b) i g u c h v =
      let next = continues_tail i (act p b) b g refl (λ j. refl) c in
      let w = effect ins p v in
      every_single (Goes R) (ticks σ p) i (effect ins p) (run σ ins b (i + 1)) g v
      (record { ends = λ x. rw x; one = overrun_one σ ins p v; resumes = λ x. rw (save_calm w x) ((continues_here (i + 1) b g next).at (on_variables w v)) })
      (goes-⊳ b (i + 1) g u next h (on_variables w v))
  goes-⊳ (branch q a d b) i g u c h v =
      let k = i + 3 + size a + size d in
      let after = goes-⊳ b k g u.2 (continues_after i q a d b g c) h in
      every_choose (Goes R) i q (run σ ins a (i + 1)) (run σ ins d (i + 2 + size a)) (run σ ins b k) g v (idle R 1 i v)
      (goes-⊳ a (i + 1) (run σ ins b k ⊳ g) u.0 (continues_then i q a d b g c k) after v)
      (goes-⊳ d (i + 2 + size a) (run σ ins b k ⊳ g) u.1 (continues_else i q a d b g c k) after v)
  goes-⊳ (while q n a b) i g u c h v = absurd u
  goes-⊳ (times q n a b) i g u c h v = absurd u

module _ (σ : Settings) (ins : List ℕ) (b : Block) (u : LoopFree b) (i : ℕ) (v : List ℕ) where
  pub goes_run : Every (Goes (λ j. run σ ins (rest b (j - i)) j)) (run σ ins b i v) v
  goes_run = every_nil (Goes R) (run σ ins b i) v (goes-⊳ σ ins R b i (λ w. []) u continues (λ w. tt) v)
    where
      R : ℕ → Run
      R j = run σ ins (rest b (j - i)) j

      continues : Continues σ ins R i b (λ w. [])
      continues = record { at = λ j l. let e : i + j - i ≡ j = omega arith in rw e (alike_eq (λ w. sym (⊳-nil (run σ ins (rest b j) (i + j)) w))) }
