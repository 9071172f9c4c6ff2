-- The values of the BEATs of a run of a laid file: 1 each, and for the last one, which starts B before the total, what its start gives.
use Prim.Native.Nat.{ℕ, zero, suc, ◌+◌, ◌≤◌, ◌<◌}
use native.Mathlib.Omega.{arith}
use mathlib.Core.Path.{◌≡◌, refl, ap, ◌∙◌, subst}
use mathlib.Core.Bool.{Bool, true, false, cond}
use mathlib.Core.List.{List, [], ◌∷◌, ◌++◌, map}
use Rattle.model.specs.declared.Settings.{Settings}
use Rattle.model.specs.Trees.{Act, set, read, write, check, beat, save, Block, nil, skip, act, branch, while, times, ◌⧺◌, size}
use Rattle.model.specs.{Times.ticks, Times.time, Equalising.waiting, Equalising.merge}
use Rattle.model.specs.Runs.{Effect, nothing, assigns, outputs, beats, saves, overruns, Step, step, is_beat, starts, duration}
use Rattle.model.specs.Runs.{on_variables, overran, holds, effect, Run, ◌⊳◌, run}
use Rattle.model.specs.{Layout.body, Layout.last_value, Layout.closed, Timeline.picks, Timeline.beat_at, Timeline.beat_list}
use Rattle.model.specs.Placement.{Each, command, CommandFree, LoopFree}
use Rattle.theory.proofs.{Each.each_merge, Each.each_map, Times.time_merge, Sequences.run-⧺, Within.run_within, Weaving.woven_body, Weaving.woven_each}
use Rattle.theory.proofs.Every.{Every, every_nil, every_single, every_choose}

-- VALUES BY START

-- a BEAT has value n
abbrev Has : ℕ → Effect → Type 0
Has n w = (x : ℕ) → w ≡ beats x → x ≡ n

-- each BEAT among steps from tick t on has the value that f gives its start
abbrev pub StepsValued : (ℕ → ℕ) → ℕ → List Step → Type 0
StepsValued f t [] = Unit {0}
StepsValued f t (e ∷ es) = Has (f t) e.does × StepsValued f (t + e.lasts) es

pub valued_list : (f : ℕ → ℕ) (es : List Step) (t : ℕ) → StepsValued f t es → beat_list t es ≡ map (λ (u : ℕ). (u, f u)) (starts is_beat t es)
valued_list f [] t p = refl
valued_list f (e ∷ es) t p = go e.does p.0 (valued_list f es (t + e.lasts) p.1)
  where
    go : (w : Effect) → Has (f t) w → beat_list (t + e.lasts) es ≡ map (λ (u : ℕ). (u, f u)) (starts is_beat (t + e.lasts) es)
        → beat_at t w ++ beat_list (t + e.lasts) es ≡ map (λ (u : ℕ). (u, f u)) (cond (is_beat w) (t ∷ []) [] ++ starts is_beat (t + e.lasts) es)
    go nothing o ih = ih
    go (assigns a x) o ih = ih
    go (outputs q x) o ih = ih
    go (beats x) o ih = rw (o x refl, ih)
    go (saves m) o ih = ih
    go overruns o ih = ih

-- where f gives 1
pub one_each : (f : ℕ → ℕ) (p : ℕ → Bool) (t n : ℕ) → ((u : ℕ) → t ≤ u → u < t + n → f u ≡ 1)
    → map {B = ℕ × ℕ} (λ u. (u, f u)) (picks p t n) ≡ map (λ u. (u, 1)) (picks p t n)
one_each f p t zero h = refl
one_each f p t (suc n) h = go (p t) (one_each f p (t + 1) n (λ u a l. h u (omega arith) (omega arith)))
  where
    go : (o : Bool) → map {B = ℕ × ℕ} (λ u. (u, f u)) (picks p (t + 1) n) ≡ map (λ u. (u, 1)) (picks p (t + 1) n)
        → map {B = ℕ × ℕ} (λ u. (u, f u)) (cond o (t ∷ []) [] ++ picks p (t + 1) n) ≡ map (λ u. (u, 1)) (cond o (t ∷ []) [] ++ picks p (t + 1) n)
    go true e = rw (h t (omega arith) (omega arith), e)
    go false e = e

-- VALUE 1

abbrev One : Effect → Type 0
One = Has 1

abbrev pub OneStep : Step → List ℕ → List Step → Type 0
OneStep e v es = One e.does

one_check : (o : Bool) → One (cond o overruns nothing)
one_check true x e = let z : ◌≡◌ {A = ℕ} 0 1 = cc in absurd (omega arith)
one_check false x e = let z : ◌≡◌ {A = ℕ} 0 1 = cc in absurd (omega arith)

one_effect : (ins : List ℕ) (p : Act) (v : List ℕ) → One (command p) → One (effect ins p v)
unfolding effect
one_effect ins (set o t l x) v p = λ y e. let z : ◌≡◌ {A = ℕ} 0 1 = cc in absurd (omega arith)
one_effect ins (read a x) v p = λ y e. let z : ◌≡◌ {A = ℕ} 0 1 = cc in absurd (omega arith)
one_effect ins (write a x) v p = λ y e. let z : ◌≡◌ {A = ℕ} 0 1 = cc in absurd (omega arith)
one_effect ins (check q) v p = one_check (holds q v)
one_effect ins (beat x) v p = p
one_effect ins (save m) v p = p

one_nothing : One nothing
one_nothing x e = let z : ◌≡◌ {A = ℕ} 0 1 = cc in absurd (omega arith)

one_run : (σ : Settings) (ins : List ℕ) (b : Block) (i : ℕ) (g : Run) → LoopFree b → Each (λ p. One (command p)) b
    → ((v : List ℕ) → Every OneStep (g v) v) → (v : List ℕ) → Every OneStep ((run σ ins b i ⊳ g) v) v
one_run σ ins nil i g u p h v = h v
one_run σ ins (skip n b) i g u p h v = (one_nothing, one_run σ ins b (i + 1) g u p h v)
one_run σ ins (act r b) i g u p h v =
    every_single OneStep (ticks σ r) i (effect ins r) (run σ ins b (i + 1)) g v (one_effect ins r v p.0)
    (one_run σ ins b (i + 1) g u p.1 h (on_variables (effect ins r v) v))
one_run σ ins (branch q a d b) i g u p h v =
    let k = i + 3 + size a + size d in
    let after = one_run σ ins b k g u.2 p.2 h in
    every_choose OneStep i q (run σ ins a (i + 1)) (run σ ins d (i + 2 + size a)) (run σ ins b k) g v (λ es. one_nothing)
    (one_run σ ins a (i + 1) (run σ ins b k ⊳ g) u.0 p.0 after v)
    (one_run σ ins d (i + 2 + size a) (run σ ins b k ⊳ g) u.1 p.1 after v)
one_run σ ins (while q n a b) i g u p h v = absurd u
one_run σ ins (times q n a b) i g u p h v = absurd u

-- MERGING

waiting-⧺ : (n : ℕ) (b c : Block) → waiting n (b ⧺ c) ≡ waiting n b ⧺ c
waiting-⧺ zero b c = refl
waiting-⧺ (suc n) b c = refl

-- an act at the end is not merged
merge_last : (a : Block) (n : ℕ) (p : Act) → merge n (a ⧺ act p nil) ≡ merge n a ⧺ act p nil
merge_last nil n p = waiting-⧺ n nil (act p nil)
merge_last (skip m a) n p = merge_last a (n + m) p
merge_last (act r a) n p = rw (merge_last a 0 p) (waiting-⧺ n (act r (merge 0 a)) (act p nil))
merge_last (branch q x y a) n p = rw (merge_last a 0 p) (waiting-⧺ n (branch q (merge 0 x) (merge 0 y) (merge 0 a)) (act p nil))
merge_last (while q m x a) n p = rw (merge_last a 0 p) (waiting-⧺ n (while q m (merge 0 x) (merge 0 a)) (act p nil))
merge_last (times q m x a) n p = rw (merge_last a 0 p) (waiting-⧺ n (times q m (merge 0 x) (merge 0 a)) (act p nil))

-- A WHOLE RUN

-- a run is steps of at most n ticks whose BEATs have value 1, and unless they overran a last BEAT of value x
pub record LastBeat (σ : Settings) (n x : ℕ) (v : List ℕ) (es : List Step) : Type 0 where
  pub front : List Step
  pub index : ℕ
  pub parts : es ≡ front ++ cond (overran front) [] (step σ.beat index (beats x) ∷ [])
  pub ones : Every OneStep front v
  pub short : duration front ≤ n

loop_free_left : (a b : Block) → LoopFree (a ⧺ b) → LoopFree a
loop_free_left nil b u = tt
loop_free_left (skip n a) b u = loop_free_left a b u
loop_free_left (act p a) b u = loop_free_left a b u
loop_free_left (branch q x y a) b u = (u.0, u.1, loop_free_left a b u.2)
loop_free_left (while q n x a) b u = u
loop_free_left (times q n x a) b u = u

module _ (σ : Settings) (ins : List ℕ) (b : Block) (u : LoopFree b) (f : CommandFree b) where
  -- before the last BEAT
  begun : Block
  begun = merge 0 (body σ b)

  begun_ones : Each (λ p. One (command p)) begun
  unfolding begun
  begun_ones =
      each_merge (λ p. One (command p)) (body σ b) 0
      (woven_each (λ p. One (command p)) (λ x e. cc) (λ x e. let z : ◌≡◌ {A = ℕ} 0 1 = cc in absurd (omega arith)) (woven_body σ b u)
      (each_map (λ p. command p ≡ nothing) (λ p. One (command p)) (λ p c x e. let z : ◌≡◌ {A = ℕ} 0 1 = cc in absurd (omega arith)) b f))

  pub last_beat_is : LoopFree (merge 0 (closed σ b)) → (v : List ℕ)
      → LastBeat σ (time σ (body σ b)) (last_value σ (time σ (body σ b))) v (run σ ins (merge 0 (closed σ b)) 0 v)
  unfolding begun effect
  last_beat_is w v = record {
    front = run σ ins begun 0 v;
    index = 0 + size begun;
    parts = ap (λ (c : Block). run σ ins c 0 v) (merge_last (body σ b) 0 (beat x)) ∙ run-⧺ σ ins begun (act (beat x) nil) 0 v;
    ones =
        every_nil OneStep (run σ ins begun 0) v
        (one_run σ ins begun 0 (λ w. []) (loop_free_left begun (act (beat x) nil) (subst LoopFree (merge_last (body σ b) 0 (beat x)) w)) begun_ones (λ w. tt) v);
    short = omega (arith, (run_within σ ins begun 0).in_all v, time_merge σ (body σ b) 0);
  }
    where
      x : ℕ
      x = last_value σ (time σ (body σ b))
