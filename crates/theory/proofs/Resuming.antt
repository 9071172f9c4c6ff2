-- A run that is stopped and taken up from its last image ends as the whole run.
use Prim.Native.Nat.{ℕ, ◌+◌, ◌-◌}
use native.Mathlib.Omega.{arith}
use mathlib.Core.Path.{◌≡◌, refl, ap, ap₂, sym, ◌∙◌, subst}
use mathlib.Core.Bool.{Bool, true, false, ◌||◌, false≢true}
use mathlib.Core.List.{List, [], ◌∷◌, ◌++◌, append_assoc, cons≢nil}
use Rattle.model.specs.declared.Settings.{Settings}
use Rattle.model.specs.{Trees.Block, Placement.LoopFree}
use Rattle.model.specs.Runs.{is_overrun, Step, duration, on_variables, variables_after, outputs_after, overran, Run, run}
use Rattle.model.specs.Stopping.{upto, Image, Saved, none, saved, last_image, start, rest, take_up}
use Rattle.theory.proofs.Sequences.{duration-++, variables-++, outputs-++, overran-++}
use Rattle.theory.proofs.{Stops.beyond, Stops.upto_beyond, Outputs.outputs_again, Unindexed.unindexed, Unindexed.same_duration}
use Rattle.theory.proofs.{Every.Every, Every.every_at, LastImage.made, LastImage.made_within}
use Rattle.theory.proofs.Views.{see, same_variables, same_outputs, same_overran}
use Rattle.theory.proofs.Left.{Goes, save_calm, rest_0, goes_run}

-- AN OVERRUN IS THE LAST STEP

-- no step before another overran
calm_before : (R : ℕ → Run) (xs : List Step) (y : Step) (ys : List Step) (v : List ℕ) → Every (Goes R) (xs ++ y ∷ ys) v → overran xs ≡ false
calm_before R [] y ys v p = refl
calm_before R (x ∷ xs) y ys v p = go (is_overrun x.does) refl (calm_before R xs y ys (on_variables x.does v) p.1)
  where
    more : (xs : List Step) → xs ++ y ∷ ys ≡ [] → ⊥
    more [] e = cons≢nil e
    more (x ∷ xs) e = cons≢nil e

    go : (o : Bool) → is_overrun x.does ≡ o → overran xs ≡ false → (o || overran xs) ≡ false
    go true k c = absurd (more xs (p.0.ends k))
    go false k c = c

pub record OverrunLast (es : List Step) : Type 0 where
  pub pre : List Step
  pub last : Step
  pub parts : es ≡ pre ++ last ∷ []
  pub over : is_overrun last.does ≡ true
  pub one : last.lasts ≡ 1

pub overrun_last : (σ : Settings) (ins : List ℕ) (b : Block) → LoopFree b → (i : ℕ) (v : List ℕ) → overran (run σ ins b i v) ≡ true → OverrunLast (run σ ins b i v)
overrun_last σ ins b u i v = found (λ j. run σ ins (rest b (j - i)) j) (run σ ins b i v) v (goes_run σ ins b u i v)
  where
    found : (R : ℕ → Run) (es : List Step) (v : List ℕ) → Every (Goes R) es v → overran es ≡ true → OverrunLast es
    found R [] v p e = absurd (false≢true e)
    found R (x ∷ es) v p e = go (is_overrun x.does) refl e (found R es (on_variables x.does v) p.1)
      where
        go : (o : Bool) → is_overrun x.does ≡ o → (o || overran es) ≡ true → (overran es ≡ true → OverrunLast es) → OverrunLast (x ∷ es)
        go true k e next = record { pre = []; last = x; parts = ap (λ (fs : List Step). x ∷ fs) (p.0.ends k); over = k; one = p.0.one k }
        go false k e next =
            let n = next e in
            record { pre = x ∷ n.pre; last = n.last; parts = ap (λ (fs : List Step). x ∷ fs) n.parts; over = n.over; one = n.one }

-- TAKING UP

-- the image to take up from: that of the last finished SAVE, or the start
abbrev pub or_start : List ℕ → Saved → Image
or_start v none = start v
or_start v (saved m) = m

-- m was left after the steps front; a run from there does once more those since then, and then those left
pub record Since (v : List ℕ) (done left again : List Step) (m : Image) : Type 0 where
  pub front : List Step
  pub twice : List Step
  pub parts : done ≡ front ++ twice
  pub variables_are : m.variables ≡ variables_after front v
  pub tick_is : m.tick ≡ duration front
  pub calm : overran front ≡ false
  pub follows : see unindexed again ≡ see unindexed (twice ++ left)

module _ (σ : Settings) (ins : List ℕ) (b : Block) (v : List ℕ) (c : ℕ) where
  abbrev pub whole : List Step
  whole = run σ ins b 0 v

  abbrev pub done : List Step
  done = upto c whole

  abbrev pub image : Image
  image = or_start v (last_image done 0 v none)

  pub record TakenUp : Type 0 where
    pub same_variables : variables_after (take_up σ ins b image) image.variables ≡ variables_after whole v
    pub same_overrun : overran (take_up σ ins b image) ≡ overran whole
    pub same_outputs : (f : ℕ → ℕ) (l : List ℕ) → outputs_after f (take_up σ ins b image) (outputs_after f done l) ≡ outputs_after f whole l
    pub same_end : image.tick + duration (take_up σ ins b image) ≡ duration whole

  -- the image is the start, or that of a SAVE, after which taking up does what is left
  pub since : LoopFree b → (z : Saved) → last_image done 0 v none ≡ z → Since v done (beyond c whole) (take_up σ ins b (or_start v z)) (or_start v z)
  unfolding take_up
  since u none e = record {
    front = [];
    twice = done;
    parts = refl;
    variables_are = refl;
    tick_is = refl;
    calm = refl;
    follows = rw (rest_0 b) (ap (see unindexed) (upto_beyond c whole));
  }
  since u (saved m) e =
      let R : ℕ → Run = λ j. run σ ins (rest b (j - 0)) j in
      let n = made done 0 v m e in
      let after = n.since ++ beyond c whole in
      let g : Every (Goes R) (n.front ++ n.save ∷ after) v = subst (λ (es : List Step). Every (Goes R) es v) (made_within c whole v m n) (goes_run σ ins b u 0 v) in
      let z : n.save.index + 1 - 0 ≡ n.save.index + 1 = omega arith in
      record {
        front = n.front ++ n.save ∷ [];
        twice = n.since;
        parts = n.parts ∙ sym (append_assoc n.front (n.save ∷ []) n.since);
        variables_are = n.variables_are ∙ sym (variables-++ n.front (n.save ∷ []) v);
        tick_is = omega (arith, n.tick_is, duration-++ n.front (n.save ∷ []));
        calm = overran-++ n.front (n.save ∷ []) ∙ rw (calm_before R n.front n.save after v g, save_calm n.save.does n.saves);
        follows =
            ap₂ (λ (j : ℕ) (w : List ℕ). see unindexed (run σ ins (rest b j) j w)) n.index_is n.variables_are
            ∙ (rw z at ((every_at (Goes R) n.front n.save after v g).resumes n.saves));
      }

  -- the whole run, parted at the image
  pub parted : (again : List Step) (m : Image) (s : Since v done (beyond c whole) again m) → whole ≡ s.front ++ (s.twice ++ beyond c whole)
  parted again m s = upto_beyond c whole ∙ ap (λ (es : List Step). es ++ beyond c whole) s.parts ∙ append_assoc s.front s.twice (beyond c whole)

  from_since : Since v done (beyond c whole) (take_up σ ins b image) image → TakenUp
  from_since s =
      let again = take_up σ ins b image in
      let left = beyond c whole in
      let onward = s.twice ++ left in
      let parts = parted again image s in
      record {
        same_variables =
            same_variables unindexed again onward s.follows image.variables ∙ ap (variables_after onward) s.variables_are
            ∙ sym (variables-++ s.front onward v) ∙ ap (λ (es : List Step). variables_after es v) (sym parts);
        same_overrun = same_overran unindexed again onward s.follows ∙ sym (ap overran parts ∙ overran-++ s.front onward ∙ rw s.calm);
        same_outputs = λ f l.
            let now = outputs_after f done l in
            let q : now ≡ outputs_after f s.twice (outputs_after f s.front l) = ap (λ (es : List Step). outputs_after f es l) s.parts ∙ outputs-++ f s.front s.twice l in
            same_outputs unindexed again onward s.follows f now ∙ outputs-++ f s.twice left now
            ∙ ap (outputs_after f left) (ap (outputs_after f s.twice) q ∙ outputs_again f s.twice (outputs_after f s.front l) ∙ sym q)
            ∙ sym (outputs-++ f done left l) ∙ ap (λ (es : List Step). outputs_after f es l) (sym (upto_beyond c whole));
        same_end = omega (arith, s.tick_is, same_duration again onward s.follows, ap duration parts, duration-++ s.front onward);
      }

pub taken_up_is : (σ : Settings) (ins : List ℕ) (b : Block) → LoopFree b → (v : List ℕ) (c : ℕ) → TakenUp σ ins b v c
taken_up_is σ ins b u v c = from_since σ ins b v c (since σ ins b v c u (last_image (upto c (run σ ins b 0 v)) 0 v none) refl)
