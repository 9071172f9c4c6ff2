-- Equalising, merging and unrolling keep what every run leaves.
use Prim.Native.Nat.{ℕ, zero, suc, ◌+◌}
use mathlib.Core.Path.{◌≡◌, refl, ap, ◌∙◌}
use mathlib.Core.{Bool.Bool, Bool.true, Bool.false, List.List, List.[]}
use Rattle.model.specs.declared.Settings.{Settings}
use Rattle.model.specs.Trees.{Test, check, Block, nil, skip, act, branch, while, times, ◌⧺◌, size}
use Rattle.model.specs.{Times.ticks, Times.time, Layout.copies, Layout.unroll}
use Rattle.model.specs.Runs.{nothing, holds, last_test, effect, Run, ◌⊳◌, single, choose, spin, rounds, run}
use Rattle.model.specs.Equalising.{pad, F, waiting, merge, equalise}
use Rattle.theory.proofs.{Sequences.⊳-assoc, Sequences.⊳-nil, Sequences.run-⧺, Traces.traced, Traces.silent_behind}
use Rattle.theory.proofs.Views.{see, Alike, alike_refl, alike_sym, alike_trans, alike_eq, alike-⊳, alike_single, alike_choose, alike_rounds, alike_spin}

-- WHILE AND ITS TIMES

-- rounds of an IF whose ELSE side only waits m ticks
balanced : ℕ → ℕ → Test → Run → ℕ → Run
balanced i j q f m = choose i q f (single m j (λ v. nothing))

-- once the test fails, no round leaves a trace
failed_rounds : (n i j k m : ℕ) (q : Test) (f : Run) (v : List ℕ) → holds q v ≡ false → see traced ((rounds n (balanced i j q f m) ⊳ single 1 k (last_test q)) v) ≡ []
unfolding balanced
failed_rounds zero i j k m q f v e = rw e
failed_rounds (suc n) i j k m q f v e = rw e (failed_rounds n i j k m q f v e)

spin_balanced : (n i j k l m : ℕ) (q : Test) {f g : Run} → Alike traced f g → Alike traced (rounds n (balanced i j q f m) ⊳ single 1 k (last_test q)) (spin l n q g)
unfolding balanced
spin_balanced zero i j k l m q p = record { at = λ v. refl }
spin_balanced (suc n) i j k l m q {f} {g} p = record { at = λ v. go v (spin_balanced n i j k l m q p) (holds q v) refl }
  where
    go : (v : List ℕ) → Alike traced (rounds n (balanced i j q f m) ⊳ single 1 k (last_test q)) (spin l n q g) → (t : Bool) → holds q v ≡ t
        → see traced ((rounds (suc n) (balanced i j q f m) ⊳ single 1 k (last_test q)) v) ≡ see traced (spin l (suc n) q g v)
    go v ih true e = ap (see traced) (⊳-assoc (balanced i j q f m) (rounds n (balanced i j q f m)) (single 1 k (last_test q)) v) ∙ rw e ((alike-⊳ p ih).at v)
    go v ih false e = failed_rounds (suc n) i j k m q f v e ∙ rw e

-- BLOCKS, AT ANY INDICES

module _ (σ : Settings) (ins : List ℕ) where
  -- a block padded at its end
  alike_pad : (b : Block) (n i : ℕ) {f : Run} → Alike traced (run σ ins b i) f → Alike traced (run σ ins (b ⧺ pad n) i) f
  alike_pad b n i p = alike_trans (alike_eq (run-⧺ σ ins b (pad n) i)) (alike_trans (silent_behind {f = run σ ins b i} {g = run σ ins (pad n) (i + size b)} (record { none = λ v. refl })) p)

  run_f : (b : Block) (i j : ℕ) → Alike traced (run σ ins (F σ b) i) (run σ ins b j)
  unfolding balanced
  run_f nil i j = alike_refl
  run_f (skip n b) i j = alike-⊳ (alike_single n i j (λ v. nothing)) (run_f b (i + 1) (j + 1))
  run_f (act p b) i j = alike-⊳ (alike_single (ticks σ p) i j (effect ins p)) (run_f b (i + 1) (j + 1))
  run_f (branch q a d b) i j =
      alike-⊳ (alike_choose q i j (alike_pad (F σ a) _ (i + 1) (run_f a (i + 1) (j + 1))) (alike_pad (F σ d) _ _ (run_f d _ (j + 2 + size a))))
      (run_f b _ (j + 3 + size a + size d))
  run_f (while q n a b) i j =
      alike-⊳
      (alike_trans
      (alike-⊳ (alike_rounds n (alike_eq (⊳-nil (balanced (i + 1) (i + 1 + 2 + size (F σ a)) q (run σ ins (F σ a) (i + 1 + 1)) (time σ (F σ a)))))) (alike_single 1 i i (last_test q)))
      (spin_balanced n (i + 1) _ i j _ q (run_f a (i + 1 + 1) (j + 1))))
      (run_f b (i + 2 + size (branch q (F σ a) (pad (time σ (F σ a))) nil)) (j + 2 + size a))
  run_f (times q n a b) i j = alike-⊳ (alike-⊳ (alike_rounds n (run_f a (i + 1) (j + 1))) (alike_single 1 i j (last_test q))) (run_f b _ (j + 2 + size a))

  run_waiting : (n : ℕ) (b : Block) (i : ℕ) {f : Run} → ((i : ℕ) → Alike traced (run σ ins b i) f) → Alike traced (run σ ins (waiting n b) i) f
  run_waiting zero b i p = p i
  run_waiting (suc n) b i p = record { at = λ v. (p (i + 1)).at v }

  pub run_merge : (b : Block) (n i j : ℕ) → Alike traced (run σ ins (merge n b) i) (run σ ins b j)
  run_merge nil n i j = run_waiting n nil i (λ k. alike_refl)
  run_merge (skip m b) n i j = record { at = λ v. (run_merge b (n + m) i (j + 1)).at v }
  run_merge (act p b) n i j =
      run_waiting n (act p (merge 0 b)) i
      (λ k. alike-⊳ (alike_single (ticks σ p) k j (effect ins p)) (run_merge b 0 (k + 1) (j + 1)))
  run_merge (branch q a d b) n i j =
      run_waiting n (branch q (merge 0 a) (merge 0 d) (merge 0 b)) i
      (λ k. alike-⊳ (alike_choose q k j (run_merge a 0 (k + 1) (j + 1)) (run_merge d 0 _ (j + 2 + size a))) (run_merge b 0 _ (j + 3 + size a + size d)))
  run_merge (while q m a b) n i j =
      run_waiting n (while q m (merge 0 a) (merge 0 b)) i
      (λ k. alike-⊳ (alike_spin m k j q (run_merge a 0 (k + 1) (j + 1))) (run_merge b 0 _ (j + 2 + size a)))
  run_merge (times q m a b) n i j =
      run_waiting n (times q m (merge 0 a) (merge 0 b)) i
      (λ k. alike-⊳ (alike-⊳ (alike_rounds m (run_merge a 0 (k + 1) (j + 1))) (alike_single 1 k j (last_test q))) (run_merge b 0 _ (j + 2 + size a)))

  pub run_equalise : (b : Block) (i j : ℕ) → Alike traced (run σ ins (equalise σ b) i) (run σ ins b j)
  unfolding equalise
  run_equalise b i j = alike_trans (run_merge (F σ b) 0 i i) (run_f b i j)

  alike-⧺ : (a b : Block) {f g : Run} → ((i : ℕ) → Alike traced (run σ ins a i) f) → ((i : ℕ) → Alike traced (run σ ins b i) g) → (i : ℕ) → Alike traced (run σ ins (a ⧺ b) i) (f ⊳ g)
  alike-⧺ a b p q i = alike_trans (alike_eq (run-⧺ σ ins a b i)) (alike-⊳ (p i) (q (i + size a)))

  run_copies : (n : ℕ) (b : Block) {f : Run} → ((i : ℕ) → Alike traced (run σ ins b i) f) → (i : ℕ) → Alike traced (run σ ins (copies n b) i) (rounds n f)
  run_copies zero b p i = alike_refl
  run_copies (suc n) b p i = alike-⧺ b (copies n b) p (run_copies n b p) i

  pub run_unroll : (b : Block) (i j : ℕ) → Alike traced (run σ ins (unroll b) i) (run σ ins b j)
  unfolding effect
  run_unroll nil i j = alike_refl
  run_unroll (skip n b) i j = alike-⊳ (alike_single n i j (λ v. nothing)) (run_unroll b (i + 1) (j + 1))
  run_unroll (act p b) i j = alike-⊳ (alike_single (ticks σ p) i j (effect ins p)) (run_unroll b (i + 1) (j + 1))
  run_unroll (branch q a d b) i j =
      alike-⊳ (alike_choose q i j (run_unroll a (i + 1) (j + 1)) (run_unroll d _ (j + 2 + size a))) (run_unroll b _ (j + 3 + size a + size d))
  run_unroll (while q n a b) i j = alike-⊳ (alike_spin n i j q (run_unroll a (i + 1) (j + 1))) (run_unroll b _ (j + 2 + size a))
  run_unroll (times q n a b) i j =
      let f = run σ ins b (j + 2 + size a) in
      alike_trans
      (alike-⧺ (copies n (unroll a)) (act (check q) (unroll b)) {g = single 1 j (last_test q) ⊳ f}
      (run_copies n (unroll a) (λ k. run_unroll a k (j + 1)))
      (λ k. alike-⊳ (alike_single 1 k j (last_test q)) (run_unroll b (k + 1) (j + 2 + size a))) i)
      (alike_sym (alike_eq (⊳-assoc (rounds n (run σ ins a (j + 1))) (single 1 j (last_test q)) f)))
