-- What steps do to the outputs and the variables: their number stays, and to write again what was written changes nothing.
use Prim.Native.Nat.{ℕ}
use mathlib.Core.Path.{◌≡◌, refl, ap, sym, ◌∙◌}
use mathlib.Core.{Bool.Bool, Bool.true, Bool.false, List.List, List.[], List.◌∷◌}
use lib.{Dec.eqb, ListN.length, ListN.length-set, ListN.set as set_at, Seq.set-set, Seq.set_comm}
use borrow.Author.Tests.{eqb-true, eqb-false}
use Rattle.model.specs.Runs.{Effect, nothing, assigns, outputs, beats, saves, overruns, Step, on_variables, variables_after, on_outputs, outputs_after}

-- a step leaves a list as it is, or puts x at p
data Puts (h : List ℕ → List ℕ) : Type 0 where
  leaves : ((l : List ℕ) → h l ≡ l) → Puts h
  puts : (p x : ℕ) → ((l : List ℕ) → h l ≡ set_at l p x) → Puts h

on_outputs_is : (f : ℕ → ℕ) (d : Effect) → Puts (on_outputs f d)
on_outputs_is f nothing = leaves (λ l. refl)
on_outputs_is f (assigns a x) = leaves (λ l. refl)
on_outputs_is f (outputs p x) = puts p (f x) (λ l. refl)
on_outputs_is f (beats x) = leaves (λ l. refl)
on_outputs_is f (saves m) = leaves (λ l. refl)
on_outputs_is f overruns = leaves (λ l. refl)

on_variables_is : (d : Effect) → Puts (on_variables d)
on_variables_is nothing = leaves (λ l. refl)
on_variables_is (assigns a x) = puts a x (λ l. refl)
on_variables_is (outputs p x) = leaves (λ l. refl)
on_variables_is (beats x) = leaves (λ l. refl)
on_variables_is (saves m) = leaves (λ l. refl)
on_variables_is overruns = leaves (λ l. refl)

length_put : {h : List ℕ → List ℕ} → Puts h → (l : List ℕ) → length (h l) ≡ length l
length_put (leaves s) l = ap length (s l)
length_put (puts p x s) l = ap length (s l) ∙ length-set l p x

pub length_outputs : (f : ℕ → ℕ) (es : List Step) (l : List ℕ) → length (outputs_after f es l) ≡ length l
length_outputs f [] l = refl
length_outputs f (e ∷ es) l = length_outputs f es (on_outputs f e.does l) ∙ length_put (on_outputs_is f e.does) l

pub length_variables : (es : List Step) (v : List ℕ) → length (variables_after es v) ≡ length v
length_variables [] v = refl
length_variables (e ∷ es) v = length_variables es (on_variables e.does v) ∙ length_put (on_variables_is e.does) v

-- to put x at p and then do h: h loses it, or it may be put after h
data Settles (p x : ℕ) (h : List ℕ → List ℕ) : Type 0 where
  lost : ((l : List ℕ) → h (set_at l p x) ≡ h l) → Settles p x h
  kept : ((l : List ℕ) → h (set_at l p x) ≡ set_at (h l) p x) → Settles p x h

settles_put : (p x : ℕ) {h : List ℕ → List ℕ} → Puts h → Settles p x h
settles_put p x (leaves s) = kept (λ l. s (set_at l p x) ∙ ap (λ (k : List ℕ). set_at k p x) (sym (s l)))
settles_put p x {h} (puts q y s) = go (eqb p q) refl
  where
    go : (o : Bool) → eqb p q ≡ o → Settles p x h
    go true e = lost (λ l. s (set_at l p x) ∙ rw (eqb-true p q e) (set-set l q x y) ∙ sym (s l))
    go false e = kept (λ l. s (set_at l p x) ∙ set_comm l p q x y (eqb-false p q e) ∙ ap (λ (k : List ℕ). set_at k p x) (sym (s l)))

settles_both : (p x : ℕ) {g h : List ℕ → List ℕ} → Settles p x g → Settles p x h → Settles p x (λ l. h (g l))
settles_both p x {g} {h} (lost a) k = lost (λ l. ap h (a l))
settles_both p x {g} {h} (kept a) (lost b) = lost (λ l. ap h (a l) ∙ b (g l))
settles_both p x {g} {h} (kept a) (kept b) = kept (λ l. ap h (a l) ∙ b (g l))

settles : (p x : ℕ) (f : ℕ → ℕ) (es : List Step) → Settles p x (outputs_after f es)
settles p x f [] = kept (λ l. refl)
settles p x f (e ∷ es) = settles_both p x (settles_put p x (on_outputs_is f e.does)) (settles p x f es)

pub outputs_again : (f : ℕ → ℕ) (es : List Step) (l : List ℕ) → outputs_after f es (outputs_after f es l) ≡ outputs_after f es l
outputs_again f [] l = refl
outputs_again f (e ∷ es) l = go (on_outputs_is f e.does) ∙ outputs_again f es l'
  where
    l' : List ℕ
    l' = on_outputs f e.does l

    settled : (p x : ℕ) → l' ≡ set_at l p x → Settles p x (outputs_after f es)
        → outputs_after f es (set_at (outputs_after f es l') p x) ≡ outputs_after f es (outputs_after f es l')
    settled p x s (lost a) = a (outputs_after f es l')
    settled p x s (kept a) = ap (outputs_after f es) (rw (s, a l) (set-set (outputs_after f es l) p x x))

    go : Puts (on_outputs f e.does) → outputs_after f es (on_outputs f e.does (outputs_after f es l')) ≡ outputs_after f es (outputs_after f es l')
    go (leaves s) = ap (outputs_after f es) (s (outputs_after f es l'))
    go (puts p x s) = ap (outputs_after f es) (s (outputs_after f es l')) ∙ settled p x (s l) (settles p x f es)
