-- The image that a stop leaves: it points just after a SAVE, its tick is at most the stop's, and it has all variables.
use Prim.Native.Nat.{ℕ, ◌+◌, ◌-◌, ◌/◌, ◌≤◌}
use native.Mathlib.Omega.{arith}
use mathlib.Core.Path.{◌≡◌, ap, sym, ◌∙◌, subst}
use mathlib.Core.Bool.{true, false≢true}
use mathlib.Core.List.{List, [], ◌∷◌, ◌++◌, append-nil}
use lib.ListN.{length}
use borrow.Author.Tests.{ne_eqb}
use Rattle.model.specs.declared.Settings.{Settings}
use Rattle.model.specs.Records.{Rec, kind_at, record_at, bytes, SAVE}
use Rattle.model.specs.Trees.{Act, set, read, write, check, beat, save, Block, nil, skip, act, branch, while, times, size, act_rec, linearise}
use Rattle.model.specs.{Times.ticks, Placement.LoopFree, Replies.after_save}
use Rattle.model.specs.Runs.{Effect, nothing, overruns, is_save, Step, duration, on_variables, variables_after, holds, effect, Run, ◌⊳◌, run}
use Rattle.model.specs.Stopping.{upto, Image, none, saved, last_image}
use Rattle.model.specs.Standing.{At}
use Rattle.laws.proofs.{Bytes.records_bytes, Bytes.records_at_is, Stands.begins}
use Rattle.theory.proofs.{Sequences.duration-++, Sequences.either, Stops.beyond, Stops.upto_within, Outputs.length_variables}
use Rattle.theory.proofs.Every.{Every, every_at, every_nil, every_single, every_choose}
use Rattle.theory.proofs.LastImage.{Made, made, made_within}

pub record Checkpoint (b : Block) (v : List ℕ) (c : ℕ) (m : Image) : Type 0 where
  pub after_save : after_save (bytes (linearise b)) m.index ≡ true
  pub in_time : m.tick ≤ c
  pub as_many : length m.variables ≡ length v

-- a step that saves has the index of a SAVE
abbrev OfSave : List ℕ → Step → List ℕ → List Step → Type 0
OfSave s e v es = is_save e.does ≡ true → kind_at s e.index ≡ SAVE

module _ (σ : Settings) (ins s : List ℕ) where
  of_act : (p : Act) (i : ℕ) (v : List ℕ) → record_at s i ≡ act_rec p → is_save (effect ins p v) ≡ true → kind_at s i ≡ SAVE
  unfolding effect
  of_act (set o t l x) i v e k = absurd (false≢true k)
  of_act (read a p) i v e k = absurd (false≢true k)
  of_act (write a p) i v e k = absurd (false≢true k)
  of_act (check q) i v e k = absurd (either (λ (d : Effect). is_save d ≡ true → ⊥) (holds q v) overruns nothing false≢true false≢true k)
  of_act (beat x) i v e k = absurd (false≢true k)
  of_act (save m) i v e k = ap (λ (r : Rec). r.kind) e

  of_save : (b : Block) (i : ℕ) (g : Run) → LoopFree b → At s i b → ((v : List ℕ) → Every (OfSave s) (g v) v) → (v : List ℕ)
      → Every (OfSave s) ((run σ ins b i ⊳ g) v) v
  of_save nil i g u a h v = h v
  of_save (skip n b) i g u a h v = (λ z. absurd (false≢true z), of_save b (i + 1) g u a.1 h v)
  of_save (act p b) i g u a h v =
      every_single (OfSave s) (ticks σ p) i (effect ins p) (run σ ins b (i + 1)) g v (of_act p i v a.0) (of_save b (i + 1) g u a.1 h (on_variables (effect ins p v) v))
  of_save (branch q x y b) i g u a h v =
      let k = i + 3 + size x + size y in
      let after = of_save b k g u.2 a.3 h in
      every_choose (OfSave s) i q (run σ ins x (i + 1)) (run σ ins y (i + 2 + size x)) (run σ ins b k) g v (λ es z. absurd (false≢true z))
      (of_save x (i + 1) (run σ ins b k ⊳ g) u.0 a.1 after v)
      (of_save y (i + 2 + size x) (run σ ins b k ⊳ g) u.1 a.2 after v)
  of_save (while q n x b) i g u a h v = absurd u
  of_save (times q n x b) i g u a h v = absurd u

after : (s : List ℕ) (i j : ℕ) → j ≡ i + 1 → kind_at s i ≡ SAVE → after_save s j ≡ true
after s i j e k = let z : i + 1 - 1 ≡ i = omega arith in rw (e, ne_eqb (i + 1) 0 (omega arith), z, k)

stands : (b : Block) → At (bytes (linearise b)) 0 b
stands b =
    let s = bytes (linearise b) in
    (begins s 0 (length s / 12) b [] (sym (records_at_is s) ∙ records_bytes (linearise b) ∙ sym (append-nil (linearise b)))).stands

pub checkpoint : (σ : Settings) (ins : List ℕ) (b : Block) → LoopFree b → (v : List ℕ) (c : ℕ) (m : Image)
    → last_image (upto c (run σ ins b 0 v)) 0 v none ≡ saved m → Checkpoint b v c m
checkpoint σ ins b u v c m e =
    record {
      after_save = after s n.save.index m.index n.index_is (every_at (OfSave s) n.front n.save (n.since ++ beyond c whole) v all n.saves);
      in_time = omega (arith, n.tick_is, upto_within c whole, ap duration n.parts, duration-++ n.front (n.save ∷ n.since));
      as_many = ap length n.variables_are ∙ length_variables (n.save ∷ []) (variables_after n.front v) ∙ length_variables n.front v;
    }
  where
    s : List ℕ
    s = bytes (linearise b)

    whole : List Step
    whole = run σ ins b 0 v

    n : Made (upto c whole) 0 v m
    n = made (upto c whole) 0 v m e

    all : Every (OfSave s) (n.front ++ n.save ∷ (n.since ++ beyond c whole)) v
    all = subst (λ (es : List Step). Every (OfSave s) es v) (made_within c whole v m n)
        (every_nil (OfSave s) (run σ ins b 0) v (of_save σ ins s b 0 (λ w. []) u (stands b) (λ w. tt) v))
