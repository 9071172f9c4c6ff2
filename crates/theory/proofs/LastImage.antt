-- The last image is that of a SAVE among the steps done.
use Prim.Native.Nat.{ℕ, ◌+◌}
use native.Mathlib.Omega.{arith}
use mathlib.Core.Path.{◌≡◌, refl, ap, ◌∙◌}
use mathlib.Core.Bool.{Bool, true, false, cond}
use mathlib.Core.Logic.{◌⊎◌, inl, inr}
use mathlib.Core.List.{List, [], ◌∷◌, ◌++◌, append_assoc}
use Rattle.model.specs.Runs.{is_save, Step, duration, on_variables, variables_after}
use Rattle.model.specs.Stopping.{upto, Image, Saved, none, saved, last_image}
use Rattle.theory.proofs.Stops.{beyond, upto_beyond}

-- m is the image of a SAVE among es, which begin at tick t with variables v
pub record Made (es : List Step) (t : ℕ) (v : List ℕ) (m : Image) : Type 0 where
  pub front : List Step
  pub save : Step
  pub since : List Step
  pub parts : es ≡ front ++ save ∷ since
  pub saves : is_save save.does ≡ true
  pub index_is : m.index ≡ save.index + 1
  pub tick_is : m.tick ≡ t + duration front + save.lasts
  pub variables_are : m.variables ≡ on_variables save.does (variables_after front v)

made_later : (es : List Step) (t : ℕ) (v : List ℕ) (before : Saved) (m : Image) → last_image es t v before ≡ saved m → (before ≡ saved m) ⊎ Made es t v m
made_later [] t v before m e = inl e
made_later (x ∷ es) t v before m e = go (is_save x.does) refl (made_later es (t + x.lasts) v' _ m e)
  where
    v' : List ℕ
    v' = on_variables x.does v

    here : Image
    here = record { index = x.index + 1; tick = t + x.lasts; variables = v' }

    go : (o : Bool) → is_save x.does ≡ o → (cond o (saved here) before ≡ saved m) ⊎ Made es (t + x.lasts) v' m → (before ≡ saved m) ⊎ Made (x ∷ es) t v m
    go o k (inr n) = inr (record {
      front = x ∷ n.front;
      save = n.save;
      since = n.since;
      parts = ap (λ (fs : List Step). x ∷ fs) n.parts;
      saves = n.saves;
      index_is = n.index_is;
      tick_is = omega (arith, n.tick_is);
      variables_are = n.variables_are;
    })
    go true k (inl q) =
        let z : m ≡ here = cc in
        inr (record { front = []; save = x; since = es; parts = refl; saves = k; index_is = rw z; tick_is = rw z (omega arith); variables_are = rw z })
    go false k (inl q) = inl q

pub made : (es : List Step) (t : ℕ) (v : List ℕ) (m : Image) → last_image es t v none ≡ saved m → Made es t v m
made es t v m e = go (made_later es t v none m e)
  where
    go : (none ≡ saved m) ⊎ Made es t v m → Made es t v m
    go (inl q) = let z : ◌≡◌ {A = ℕ} 0 1 = cc in absurd (omega arith)
    go (inr n) = n

-- in the run that was stopped at c
pub made_within : (c : ℕ) (es : List Step) (v : List ℕ) (m : Image) (n : Made (upto c es) 0 v m) → es ≡ n.front ++ n.save ∷ (n.since ++ beyond c es)
made_within c es v m n = upto_beyond c es ∙ ap (λ (xs : List Step). xs ++ beyond c es) n.parts ∙ append_assoc n.front (n.save ∷ n.since) (beyond c es)
