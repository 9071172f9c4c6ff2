-- The steps of a laid file that a run taken up does are those of the whole run from the image's tick on, in place and of the same values.
use Prim.Native.Nat.{ℕ, ◌+◌}
use native.Mathlib.{Omega.arith, Nat.add-zero, Nat.add_assoc}
use mathlib.Core.Path.{◌≡◌, refl, sym, ◌∙◌, subst}
use mathlib.Core.Bool.{true, false, false≢true}
use mathlib.Core.List.{List, [], ◌∷◌, ◌++◌}
use Rattle.model.specs.declared.Settings.{Settings}
use Rattle.model.specs.{Trees.Block, Placement.Fits, Placement.LoopFree, Placement.StepsPlaced}
use Rattle.model.specs.Runs.{Effect, nothing, assigns, outputs, beats, saves, overruns, is_beat, is_save, Step, duration, overran, run}
use Rattle.model.specs.Stopping.{upto, Saved, none, saved, last_image, take_up}
use Rattle.theory.proofs.{Sequences.duration-++, Sequences.overran-++, Views.see, Views.same_overran}
use Rattle.theory.proofs.{Unindexed.unindexed, Unindexed.same_duration, Stops.beyond, LastImage.made, LastImage.made_within}
use Rattle.theory.proofs.{Values.StepsValued, LaidRuns.due_value, LaidRuns.LaidFrom}
use Rattle.theory.proofs.Starts.{Settled, settled_start, settled_after, step_placed}
use Rattle.theory.proofs.Resuming.{or_start, since, parted}

-- THE STEPS BEHIND OTHERS

placed_right : (σ : Settings) (xs ys : List Step) (t : ℕ) → StepsPlaced σ t (xs ++ ys) → StepsPlaced σ (t + duration xs) ys
placed_right σ [] ys t p = subst (λ (u : ℕ). StepsPlaced σ u ys) (sym (add-zero t)) p
placed_right σ (e ∷ xs) ys t p = subst (λ (u : ℕ). StepsPlaced σ u ys) (add_assoc t e.lasts (duration xs)) (placed_right σ xs ys (t + e.lasts) p.1)

valued_right : (f : ℕ → ℕ) (xs ys : List Step) (t : ℕ) → StepsValued f t (xs ++ ys) → StepsValued f (t + duration xs) ys
valued_right f [] ys t p = subst (λ (u : ℕ). StepsValued f u ys) (sym (add-zero t)) p
valued_right f (e ∷ xs) ys t p = subst (λ (u : ℕ). StepsValued f u ys) (add_assoc t e.lasts (duration xs)) (valued_right f xs ys (t + e.lasts) p.1)

laid_behind : (σ : Settings) (t u : ℕ) (xs ys : List Step) → LaidFrom σ t u (xs ++ ys) → overran xs ≡ false → Settled σ (u + duration xs)
    → LaidFrom σ t (u + duration xs) ys
laid_behind σ t u xs ys p calm s =
    let over : overran (xs ++ ys) ≡ overran ys = overran-++ xs ys ∙ rw calm in
    let ends : u + duration (xs ++ ys) ≡ u + duration xs + duration ys = omega (arith, duration-++ xs ys) in
    record {
      settled = s;
      placed = placed_right σ xs ys u p.placed;
      valued = valued_right (due_value σ t) xs ys u p.valued;
      lasts = λ h. sym ends ∙ p.lasts (over ∙ h);
      early = λ h. rw ends at (p.early (over ∙ h));
      cut = λ h. subst (Settled σ) ends (p.cut (over ∙ h));
    }

-- STEPS THAT DIFFER IN THEIR RECORDS' INDICES ALONE

module _ (σ : Settings) where
  placed_without : (es : List Step) (t : ℕ) → StepsPlaced σ t es → StepsPlaced σ t (see unindexed es)
  placed_without [] t p = tt
  placed_without (e ∷ es) t p = (p.0, placed_without es (t + e.lasts) p.1)

  placed_with : (es : List Step) (t : ℕ) → StepsPlaced σ t (see unindexed es) → StepsPlaced σ t es
  placed_with [] t p = tt
  placed_with (e ∷ es) t p = (p.0, placed_with es (t + e.lasts) p.1)

module _ (f : ℕ → ℕ) where
  valued_without : (es : List Step) (t : ℕ) → StepsValued f t es → StepsValued f t (see unindexed es)
  valued_without [] t p = tt
  valued_without (e ∷ es) t p = (p.0, valued_without es (t + e.lasts) p.1)

  valued_with : (es : List Step) (t : ℕ) → StepsValued f t (see unindexed es) → StepsValued f t es
  valued_with [] t p = tt
  valued_with (e ∷ es) t p = (p.0, valued_with es (t + e.lasts) p.1)

laid_alike : (σ : Settings) (t u : ℕ) (es fs : List Step) → see unindexed es ≡ see unindexed fs → LaidFrom σ t u fs → LaidFrom σ t u es
laid_alike σ t u es fs e p =
    let over = sym (same_overran unindexed es fs e) in
    let ends = same_duration fs es (sym e) in
    record {
      settled = p.settled;
      placed = placed_with σ es u (subst (StepsPlaced σ u) (sym e) (placed_without σ fs u p.placed));
      valued = valued_with (due_value σ t) es u (subst (StepsValued (due_value σ t) u) (sym e) (valued_without (due_value σ t) fs u p.valued));
      lasts = λ h. rw ends at (p.lasts (over ∙ h));
      early = λ h. rw ends at (p.early (over ∙ h));
      cut = λ h. subst (λ (d : ℕ). Settled σ (u + d)) ends (p.cut (over ∙ h));
    }

-- FROM THE LAST IMAGE ON, OR FROM THE START

save_no_beat : (w : Effect) → is_save w ≡ true → is_beat w ≡ false
save_no_beat nothing e = refl
save_no_beat (assigns a x) e = refl
save_no_beat (outputs p x) e = refl
save_no_beat (beats x) e = absurd (false≢true e)
save_no_beat (saves m) e = refl
save_no_beat overruns e = refl

module _ (σ : Settings) (fits : Fits σ) (ins : List ℕ) (b : Block) (free : LoopFree b) (t : ℕ) (v : List ℕ) (c : ℕ)
    (p : LaidFrom σ t 0 (run σ ins b 0 v)) where
  abbrev whole : List Step
  whole = run σ ins b 0 v

  -- the image's tick is the end of a SAVE
  settled_image : (z : Saved) → last_image (upto c whole) 0 v none ≡ z → Settled σ (or_start v z).tick
  settled_image none e = settled_start σ fits
  settled_image (saved m) e =
      let n = made (upto c whole) 0 v m e in
      let y = n.save in
      let i = step_placed σ n.front y (n.since ++ beyond c whole) 0 (subst (StepsPlaced σ 0) (made_within c whole v m n) p.placed) in
      subst (Settled σ) (sym n.tick_is)
      (settled_after σ fits (0 + duration n.front) y.lasts y.does i (save_no_beat y.does n.saves) (omega (arith, i.save_lasts n.saves)))

  pub laid_again : (z : Saved) → last_image (upto c whole) 0 v none ≡ z → LaidFrom σ t (or_start v z).tick (take_up σ ins b (or_start v z))
  laid_again z e =
      let m = or_start v z in
      let again = take_up σ ins b m in
      let s = since σ ins b v c free z e in
      let onward = s.twice ++ beyond c whole in
      let there : 0 + duration s.front ≡ m.tick = omega (arith, s.tick_is) in
      let behind = laid_behind σ t 0 s.front onward (subst (LaidFrom σ t 0) (parted σ ins b v c again m s) p) s.calm
      (subst (Settled σ) (sym there) (settled_image z e)) in
      subst (λ (u : ℕ). LaidFrom σ t u again) there (laid_alike σ t (0 + duration s.front) again onward s.follows behind)
