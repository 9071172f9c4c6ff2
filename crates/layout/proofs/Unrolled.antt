-- How an equalised block is laid: statement by statement, and each statement by itself.
use Prim.Native.Nat.{ℕ, zero, suc, ◌+◌, ◌-◌, ◌≤◌, max}
use native.Mathlib.{Omega.arith, Nat.add-zero}
use mathlib.Core.Path.{◌≡◌, refl, ap, ap₂, sym, ◌∙◌}
use Rattle.model.specs.declared.Settings.{Settings}
use Rattle.model.specs.declared.Form.TheVariants.{Equalised}
use Rattle.model.specs.Trees.{Test, Act, check, Block, nil, skip, act, branch, while, times, ◌⧺◌}
use Rattle.model.specs.{Times.ticks, Times.time, Standing.OfForm}
use Rattle.model.specs.Layout.{copies, unroll, before, idles, fill, filled, lay}
use Rattle.model.specs.Placement.{Fits, CommandFree, LoopFree}
use Rattle.theory.specs.Windows.{Free}
use Rattle.laws.proofs.{Trees.⧺-nil, Trees.⧺-assoc}
use Rattle.theory.proofs.{Times.time-⧺, Forms.formed}
use Rattle.theory.proofs.Unrolling.{unrolled_loop_free, unrolled_command_free, rounds_loop_free, rounds_command_free}
use Rattle.theory.proofs.Windows.{free_later, free_behind, free_tested, fill_ends}
use Rattle.reading.specs.Ranges.{after_first}
use Rattle.layout.specs.{Ranges.only, Measured.laid}

-- UNROLLING

unroll_first : (b : Block) → unroll b ≡ unroll (only b) ⧺ unroll (after_first b)
unroll_first nil = refl
unroll_first (skip n b) = refl
unroll_first (act p b) = refl
unroll_first (branch q a d b) = refl
unroll_first (while q n a b) = refl
unroll_first (times q n a b) = sym (⧺-assoc (copies n (unroll a)) (act (check q) nil) (unroll b))

-- the first statement is of the form that the block is of
pub only_form : (b : Block) → OfForm Equalised b → OfForm Equalised (only b)
only_form nil p = tt
only_form (skip n b) p = (p.0, tt)
only_form (act q b) p = (p.0, tt)
only_form (branch q a d b) p = (p.0, p.1, p.2, tt)
only_form (while q n a b) p = (p.0, p.1, tt)
only_form (times q n a b) p = (p.0, p.1, tt)

-- one more copy may as well come last
copies_more : (n : ℕ) (b : Block) → copies (suc n) b ≡ copies n b ⧺ b
copies_more zero b = ⧺-nil b
copies_more (suc n) b = ap (λ (c : Block). b ⧺ c) (copies_more n b) ∙ sym (⧺-assoc b (copies n b) b)

module _ (σ : Settings) where
  -- EACH STATEMENT

  pub laid_nil : (t : ℕ) → laid σ nil t ≡ nil
  unfolding laid
  laid_nil t = refl

  pub laid_skip : (n t : ℕ) → laid σ (skip n nil) t ≡ idles σ n t
  unfolding laid
  laid_skip n t = ⧺-nil (idles σ n t)

  pub laid_act : (p : Act) (t : ℕ) → laid σ (act p nil) t ≡ before σ t (ticks σ p) ⧺ act p nil
  unfolding laid
  laid_act p t = refl

  pub laid_branch : (q : Test) (a d : Block) (t : ℕ) →
      let u = t + time σ (before σ t 1) + 1 in
      let e = u + max (time σ (laid σ a u)) (time σ (laid σ d u)) in
      laid σ (branch q a d nil) t ≡ before σ t 1 ⧺ branch q (filled σ u (laid σ a u) e) (filled σ u (laid σ d u) e) nil
  unfolding laid
  laid_branch q a d t = refl

  -- n rounds of a from tick t on
  unfoldable pub rounds : Block → ℕ → ℕ → Block
  rounds a n t = lay σ (copies n (unroll a)) t

  pub rounds_none : (a : Block) (t : ℕ) → rounds a 0 t ≡ nil
  unfolding rounds
  rounds_none a t = refl

  -- ONE AFTER ANOTHER

  -- what stands before the statement c, that statement, which ends at e, and then b
  headed : (h c b : Block) (t e : ℕ) → t + time σ h + time σ c ≡ e → h ⧺ (c ⧺ lay σ b e) ≡ (h ⧺ c) ⧺ lay σ b (t + time σ (h ⧺ c))
  headed h c b t e k =
      let n : e ≡ t + time σ (h ⧺ c) = omega (arith, time-⧺ σ h c) in
      ap (λ (m : ℕ). h ⧺ (c ⧺ lay σ b m)) n ∙ sym (⧺-assoc h c (lay σ b (t + time σ (h ⧺ c))))

  skip_first : (n : ℕ) (b : Block) (t : ℕ) → lay σ (skip n b) t ≡ lay σ (skip n nil) t ⧺ lay σ b (t + time σ (lay σ (skip n nil) t))
  skip_first n b t = headed (idles σ n t) nil b t (t + time σ (idles σ n t)) (omega arith)

  act_first : (p : Act) (b : Block) (t : ℕ) → lay σ (act p b) t ≡ lay σ (act p nil) t ⧺ lay σ b (t + time σ (lay σ (act p nil) t))
  act_first p b t = headed (before σ t (ticks σ p)) (act p nil) b t (t + time σ (before σ t (ticks σ p)) + ticks σ p) (omega arith)

  -- x is laid from t on, then y, then b: d is the first two, and r the last two
  joined : (x y b d r whole : Block) (t : ℕ) → whole ≡ x ⧺ r → d ≡ x ⧺ y → r ≡ y ⧺ lay σ b (t + time σ x + time σ y) → whole ≡ d ⧺ lay σ b (t + time σ d)
  joined x y b d r whole t e f g =
      let n : t + time σ x + time σ y ≡ t + time σ d = omega (arith, ap (time σ) f, time-⧺ σ x y) in
      e ∙ ap (λ (c : Block). x ⧺ c) g
      ∙ sym (⧺-assoc x y (lay σ b (t + time σ x + time σ y)))
      ∙ ap₂ (λ (c : Block) (m : ℕ). c ⧺ lay σ b m) (sym f) n

  module _ (fits : Fits σ) where
    -- a side that is filled ends where the sides meet
    pub filled_ends : (a : Block) (t e : ℕ) → Free σ 1 (t + time σ a) → Free σ 1 e → t + time σ a ≤ e → t + time σ (filled σ t a e) ≡ e
    filled_ends a t e f g l =
        let u = t + time σ a in
        omega (arith, time-⧺ σ a (fill σ (e - u) u e), fill_ends σ fits u e f g l)

    branch_first : (q : Test) (a d b : Block) (t : ℕ) → LoopFree a × LoopFree d → CommandFree a × CommandFree d → Free σ 0 t
        → lay σ (branch q a d b) t ≡ lay σ (branch q a d nil) t ⧺ lay σ b (t + time σ (lay σ (branch q a d nil) t))
    branch_first q a d b t p c f =
        let h = before σ t 1 in
        let u = t + time σ h + 1 in
        let x = lay σ a u in
        let y = lay σ d u in
        let e = u + max (time σ x) (time σ y) in
        let g = free_tested σ fits 0 t f in
        let i = free_behind σ fits a 1 u p.0 c.0 (omega arith) g in
        let j = free_behind σ fits d 1 u p.1 c.1 (omega arith) g in
        let k = free_later σ fits e (u + time σ x) (u + time σ y) (omega arith) i j in
        let m = filled_ends x u e i k (omega arith) in
        let n = filled_ends y u e j k (omega arith) in
        headed h (branch q (filled σ u x e) (filled σ u y e) nil) b t e (omega arith)

    lay-⧺ : (a b : Block) (t : ℕ) → LoopFree a → CommandFree a → Free σ 0 t → lay σ (a ⧺ b) t ≡ lay σ a t ⧺ lay σ b (t + time σ (lay σ a t))
    lay-⧺ nil b t p c f = rw (add-zero t)
    lay-⧺ (skip n a) b t p c f =
        let x = lay σ (skip n nil) t in
        let u = t + time σ x in
        let g = free_behind σ fits (skip n nil) 0 t tt tt (omega arith) f in
        joined x (lay σ a u) b _ _ _ t (skip_first n (a ⧺ b) t) (skip_first n a t) (lay-⧺ a b u p c g)
    lay-⧺ (act r a) b t p c f =
        let x = lay σ (act r nil) t in
        let u = t + time σ x in
        let g = free_behind σ fits (act r nil) 0 t tt (c.0, tt) (omega arith) f in
        joined x (lay σ a u) b _ _ _ t (act_first r (a ⧺ b) t) (act_first r a t) (lay-⧺ a b u p c.1 g)
    lay-⧺ (branch q v w a) b t p c f =
        let x = lay σ (branch q v w nil) t in
        let u = t + time σ x in
        let g = free_behind σ fits (branch q v w nil) 0 t (p.0, p.1, tt) (c.0, c.1, tt) (omega arith) f in
        joined x (lay σ a u) b _ _ _ t (branch_first q v w (a ⧺ b) t (p.0, p.1) (c.0, c.1) f) (branch_first q v w a t (p.0, p.1) (c.0, c.1) f)
        (lay-⧺ a b u p.2 c.2 g)
    lay-⧺ (while q n x a) b t p c f = absurd p
    lay-⧺ (times q n x a) b t p c f = absurd p

    -- the first statement, and what follows it
    pub laid_first : (b : Block) (t : ℕ) → OfForm Equalised b → Free σ 0 t
        → laid σ b t ≡ laid σ (only b) t ⧺ laid σ (after_first b) (t + time σ (laid σ (only b) t))
    unfolding laid
    laid_first b t p f =
        let k = formed Equalised (only b) (only_form b p) in
        ap (λ (c : Block). lay σ c t) (unroll_first b)
        ∙ lay-⧺ (unroll (only b)) (unroll (after_first b)) t (unrolled_loop_free (only b) k) (unrolled_command_free (only b) k) f

    after_rounds : (a b : Block) (n t : ℕ) → OfForm Equalised a → Free σ 0 t
        → lay σ (copies n (unroll a) ⧺ b) t ≡ rounds a n t ⧺ lay σ b (t + time σ (rounds a n t))
    unfolding rounds
    after_rounds a b n t p f =
        let k = formed Equalised a p in
        lay-⧺ (copies n (unroll a)) b t (rounds_loop_free a k n) (rounds_command_free a k n) f

    -- the first round, and the others
    pub rounds_first : (a : Block) (n t : ℕ) → OfForm Equalised a → Free σ 0 t → rounds a (suc n) t ≡ laid σ a t ⧺ rounds a n (t + time σ (laid σ a t))
    unfolding rounds laid
    rounds_first a n t p f =
        let F = formed Equalised a p in
        lay-⧺ (unroll a) (copies n (unroll a)) t (unrolled_loop_free a F) (unrolled_command_free a F) f

    -- one more round
    pub rounds_more : (a : Block) (n t : ℕ) → OfForm Equalised a → Free σ 0 t → rounds a (n + 1) t ≡ rounds a n t ⧺ laid σ a (t + time σ (rounds a n t))
    unfolding laid rounds
    rounds_more a n t p f =
        let e : n + 1 ≡ suc n = omega arith in
        ap (λ (k : ℕ). lay σ (copies k (unroll a)) t) e ∙ ap (λ (c : Block). lay σ c t) (copies_more n (unroll a)) ∙ after_rounds a (unroll a) n t p f

    pub laid_times : (q : Test) (n : ℕ) (a : Block) (t : ℕ) → OfForm Equalised a → Free σ 0 t →
        let u = t + time σ (rounds a n t) in
        laid σ (times q n a nil) t ≡ rounds a n t ⧺ (before σ u 1 ⧺ act (check q) nil)
    unfolding laid
    laid_times q n a t p f = after_rounds a (act (check q) nil) n t p f

    -- WHERE IT ENDS

    pub laid_free : (b : Block) (ε t : ℕ) → OfForm Equalised b → ε ≤ 1 → Free σ ε t → Free σ ε (t + time σ (laid σ b t))
    unfolding laid
    laid_free b ε t p l f =
        let k = formed Equalised b p in
        free_behind σ fits (unroll b) ε t (unrolled_loop_free b k) (unrolled_command_free b k) l f
