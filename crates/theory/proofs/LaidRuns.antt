-- Steps of a run of a laid file, from its start or from a later tick on: how long they last, and where their BEATs and SAVEs start.
use Prim.Native.Nat.{ℕ, ◌+◌, ◌*◌, ◌-◌, ◌%◌, ◌≤◌, ◌<◌}
use native.Mathlib.{Omega.arith, Nat.add-zero, Nat.add_assoc}
use mathlib.Core.Path.{◌≡◌, refl, ap, ap₂, sym, ◌∙◌, subst}
use mathlib.Core.Bool.{Bool, true, false, cond, false≢true}
use mathlib.Core.List.{List, [], ◌∷◌, ◌++◌, map, map-append, append-nil}
use lib.Dec.{ltb}
use borrow.Author.Tests.{lt-ltb, le-ltb}
use Rattle.model.specs.declared.Settings.{Settings}
use Rattle.model.specs.declared.Form.TheVariants.{Equalised}
use Rattle.model.specs.{Trees.Block, Times.time}
use Rattle.model.specs.Runs.{Effect, nothing, assigns, outputs, beats, saves, overruns, is_beat, is_save, is_overrun, Step, step, starts}
use Rattle.model.specs.Runs.{duration, on_variables, overran, run}
use Rattle.model.specs.Layout.{unroll, body, ceiling, last_value, layout, total}
use Rattle.model.specs.{Placement.Fits, Placement.LoopFree, Placement.StepsPlaced, Standing.OfForm}
use Rattle.model.specs.Timeline.{picks, multiples, beat_list, EndsInBeat}
use Rattle.theory.proofs.{Sequences.duration-++, Sequences.overran-++, Forms.formed}
use Rattle.theory.proofs.{Unrolling.unrolled_loop_free, Unrolling.unrolled_command_free}
use Rattle.theory.proofs.{Placing.placed_loop_free, Placing.placed_run, Every.Every, Resuming.overrun_last}
use Rattle.theory.proofs.Starts.{Settled, settled_start, settled_after, step_placed, beat_starts, beat_list_is, save_list, save_list_cut, uncrossed, after_beat}
use Rattle.theory.proofs.Laid.{placed_laid, last_start_is, laid_lasts}
use Rattle.theory.proofs.Values.{StepsValued, valued_list, one_each, OneStep, LastBeat, last_beat_is}

-- WHAT IS KNOWN OF SUCH STEPS

-- the total of a laid file: the last BEAT starts B before it, at a multiple of H
pub record Total (σ : Settings) (t : ℕ) : Type 0 where
  pub long : σ.beat ≤ t
  pub last_bound : (t - σ.beat) % σ.window ≡ 0

-- the value of a BEAT that starts at u, where the total is t
abbrev pub due_value : Settings → ℕ → ℕ → ℕ
due_value σ t u = cond (ltb u (t - σ.beat)) 1 (last_value σ (t - σ.beat))

-- steps from tick u on, where the total is t
pub record LaidFrom (σ : Settings) (t u : ℕ) (es : List Step) : Type 0 where
  pub settled : Settled σ u
  pub placed : StepsPlaced σ u es
  pub valued : StepsValued (due_value σ t) u es
  pub lasts : overran es ≡ false → u + duration es ≡ t
  -- steps that overran end before the last BEAT, and past the BEAT of their window
  pub early : overran es ≡ true → u + duration es ≤ t - σ.beat
  pub cut : overran es ≡ true → Settled σ (u + duration es)

due_one : (σ : Settings) (t u : ℕ) → u < t - σ.beat → due_value σ t u ≡ 1
due_one σ t u l = rw (lt-ltb u (t - σ.beat) l)

due_last : (σ : Settings) (t : ℕ) → due_value σ t (t - σ.beat) ≡ last_value σ (t - σ.beat)
due_last σ t = rw (le-ltb (t - σ.beat) (t - σ.beat) (omega arith))

-- WHAT FOLLOWS

module _ (σ : Settings) (fits : Fits σ) (t u : ℕ) (es : List Step) (p : LaidFrom σ t u es) where
  -- the BEATs start at the multiples of H
  pub laid_beats : starts is_beat u es ≡ multiples σ.window u (u + duration es)
  laid_beats =
      let e : duration es ≡ u + duration es - u = omega arith in
      beat_starts σ fits es u p.placed ∙ ap (picks _ u) e

  -- each has the value that its start gives
  laid_values : (l : List ℕ) → starts is_beat u es ≡ l → beat_list u es ≡ map (λ x. (x, due_value σ t x)) l
  laid_values l e = valued_list (due_value σ t) es u p.valued ∙ ap (map (λ x. (x, due_value σ t x))) e

  module _ (z : Total σ t) (h : overran es ≡ false) where
    -- …, total − B
    pub whole_starts : starts is_beat u es ≡ multiples σ.window u (t - σ.beat) ++ (t - σ.beat) ∷ []
    whole_starts = beat_list_is σ fits es u (t - σ.beat) p.placed p.settled z.last_bound (omega (arith, p.lasts h, z.long))

    -- of value 1, but for the last
    pub whole_values : beat_list u es
        ≡ map (λ x. (x, 1)) (multiples σ.window u (t - σ.beat)) ++ (t - σ.beat, ceiling (σ.period - t) σ.window) ∷ []
    unfolding last_value
    whole_values =
        let n = t - σ.beat in
        let e : n + σ.beat ≡ t = omega (arith, z.long) in
        let last : due_value σ t n ≡ ceiling (σ.period - t) σ.window = due_last σ t ∙ ap (λ (x : ℕ). ceiling (σ.period - x) σ.window) e in
        laid_values (multiples σ.window u n ++ n ∷ []) whole_starts ∙ map-append _ (multiples σ.window u n) (n ∷ [])
        ∙ ap₂ (λ (l : List (ℕ × ℕ)) (x : ℕ). l ++ (n, x) ∷ []) (one_each (due_value σ t) _ u (n - u) (λ x a l. due_one σ t x (omega arith))) last

    pub whole_saves : starts is_save u es ≡ map (λ x. σ.beat + x) (multiples (σ.spacing * σ.window) u (t - σ.beat))
    whole_saves =
        save_list σ fits es u p.placed p.settled
        ∙ ap (λ (n : ℕ). map (λ x. σ.beat + x) (multiples (σ.spacing * σ.window) u (n - σ.beat))) (p.lasts h)

  -- of steps that overran
  module _ (h : overran es ≡ true) where
    pub cut_values : beat_list u es ≡ map (λ x. (x, 1)) (multiples σ.window u (u + duration es))
    cut_values =
        laid_values (multiples σ.window u (u + duration es)) laid_beats
        ∙ one_each (due_value σ t) _ u (u + duration es - u) (λ x a l. due_one σ t x (omega (arith, p.early h)))

    pub cut_saves : starts is_save u es ≡ map (λ x. σ.beat + x) (multiples (σ.spacing * σ.window) u (u + duration es))
    cut_saves = save_list_cut σ fits es u p.placed p.settled (p.cut h)

  -- at each step
  module _ (pre : List Step) (e : Step) (post : List Step) (parts : es ≡ pre ++ e ∷ post) where
    pub save_follows : is_save e.does ≡ true → EndsInBeat pre
    save_follows = after_beat σ fits pre e post u (subst (StepsPlaced σ u) parts p.placed) p.settled

    pub no_crossing : (u + duration pre) % σ.window + e.lasts ≤ σ.window
    no_crossing = uncrossed σ pre e post u (subst (StepsPlaced σ u) parts p.placed)

-- A WHOLE RUN

overrun_no_beat : (w : Effect) → is_overrun w ≡ true → is_beat w ≡ false
overrun_no_beat nothing e = refl
overrun_no_beat (assigns a x) e = refl
overrun_no_beat (outputs p x) e = refl
overrun_no_beat (beats x) e = absurd (false≢true e)
overrun_no_beat (saves m) e = refl
overrun_no_beat overruns e = refl

placed_left : (σ : Settings) (xs ys : List Step) (t : ℕ) → StepsPlaced σ t (xs ++ ys) → StepsPlaced σ t xs
placed_left σ [] ys t p = tt
placed_left σ (e ∷ xs) ys t p = (p.0, placed_left σ xs ys (t + e.lasts) p.1)

valued-++ : (f : ℕ → ℕ) (xs ys : List Step) (t : ℕ) → StepsValued f t xs → StepsValued f (t + duration xs) ys → StepsValued f t (xs ++ ys)
valued-++ f [] ys t p q = subst (λ (u : ℕ). StepsValued f u ys) (add-zero t) q
valued-++ f (e ∷ xs) ys t p q =
    (p.0, valued-++ f xs ys (t + e.lasts) p.1 (subst (λ (u : ℕ). StepsValued f u ys) (sym (add_assoc t e.lasts (duration xs))) q))

-- steps before the last BEAT, of value 1
valued_front : (σ : Settings) → Fits σ → (t : ℕ) (es : List Step) (v : List ℕ) (u : ℕ) → Every OneStep es v → StepsPlaced σ u es
    → u + duration es ≤ t - σ.beat → StepsValued (due_value σ t) u es
valued_front σ fits t [] v u o p l = tt
valued_front σ fits t (e ∷ es) v u o p l = (
  λ x k. o.0 x k ∙ sym (due_one σ t u (omega (arith, p.0.beat_lasts (ap is_beat k)))),
  valued_front σ fits t es (on_variables e.does v) (u + e.lasts) o.1 p.1 (omega arith),
)

module _ (σ : Settings) (fits : Fits σ) (b : Block) (p : OfForm Equalised b) where
  pub laid_total_is : Total σ (total σ b)
  unfolding total
  laid_total_is = record { long = omega arith; last_bound = last_start_is σ b p fits }

  pub loop_free : LoopFree (layout σ b)
  loop_free = placed_loop_free σ (layout σ b) 0 (placed_laid σ b p fits)

  module _ (ins v : List ℕ) where
    abbrev steps : List Step
    steps = run σ ins (layout σ b) 0 v

    in_place : StepsPlaced σ 0 steps
    in_place = placed_run σ ins (layout σ b) 0 0 (placed_laid σ b p fits) v

    -- the steps before the last BEAT, which starts at the total less B
    last : LastBeat σ (total σ b - σ.beat) (last_value σ (total σ b - σ.beat)) v steps
    unfolding layout total
    last =
        let f = formed Equalised b p in
        let n = time σ (body σ (unroll b)) in
        let e : n ≡ n + σ.beat - σ.beat = omega arith in
        subst (λ (x : ℕ). LastBeat σ x (last_value σ x) v steps) e
        (last_beat_is σ ins (unroll b) (unrolled_loop_free b f) (unrolled_command_free b f) loop_free v)

    front : List Step
    front = last.front

    beat : Step
    beat = step σ.beat last.index (beats (last_value σ (total σ b - σ.beat)))

    are : (o : Bool) → overran front ≡ o → steps ≡ front ++ cond o [] (beat ∷ [])
    unfolding front beat
    are o e = last.parts ∙ ap (λ (x : Bool). front ++ cond x [] (beat ∷ [])) e

    calm : overran front ≡ false → overran steps ≡ false
    unfolding beat
    calm e = ap overran (are false e) ∙ overran-++ front (beat ∷ []) ∙ rw e

    front_ends : overran front ≡ false → duration front ≡ total σ b - σ.beat
    unfolding beat
    front_ends e = omega (arith, laid_lasts σ b p fits ins v (calm e), ap duration (are false e), duration-++ front (beat ∷ []))

    front_valued : StepsValued (due_value σ (total σ b)) 0 front
    unfolding front
    front_valued =
        let placed = placed_left σ front _ 0 (subst (StepsPlaced σ 0) last.parts in_place) in
        valued_front σ fits (total σ b) front v 0 last.ones placed (omega (arith, last.short))

    all_valued : (o : Bool) → overran front ≡ o → StepsValued (due_value σ (total σ b)) 0 (front ++ cond o [] (beat ∷ []))
    unfolding beat
    all_valued true e = subst (StepsValued (due_value σ (total σ b)) 0) (sym (append-nil front)) front_valued
    all_valued false e =
        let n = total σ b - σ.beat in
        let z : 0 + duration front ≡ n = omega (arith, front_ends e) in
        let due : due_value σ (total σ b) (0 + duration front) ≡ last_value σ n = ap (due_value σ (total σ b)) z ∙ due_last σ (total σ b) in
        valued-++ (due_value σ (total σ b)) front (beat ∷ []) 0 front_valued ((λ x k. let y : x ≡ last_value σ n = cc in y ∙ sym due), tt)

    all_early : (o : Bool) → overran front ≡ o → overran steps ≡ true → 0 + duration steps ≤ total σ b - σ.beat
    unfolding front
    all_early true e h = omega (arith, ap duration (are true e ∙ append-nil front), last.short)
    all_early false e h = absurd (false≢true (sym (calm e) ∙ h))

    all_cut : overran steps ≡ true → Settled σ (0 + duration steps)
    all_cut h =
        let o = overrun_last σ ins (layout σ b) loop_free 0 v h in
        let y = o.last in
        let i = step_placed σ o.pre y [] 0 (subst (StepsPlaced σ 0) o.parts in_place) in
        let e : 0 + duration o.pre + y.lasts ≡ 0 + duration steps = omega (arith, ap duration o.parts, duration-++ o.pre (y ∷ [])) in
        subst (Settled σ) e
        (settled_after σ fits (0 + duration o.pre) y.lasts y.does i (overrun_no_beat y.does o.over) (omega (arith, o.one)))

    pub laid_whole : LaidFrom σ (total σ b) 0 (run σ ins (layout σ b) 0 v)
    laid_whole = record {
      settled = settled_start σ fits;
      placed = in_place;
      valued = subst (StepsValued (due_value σ (total σ b)) 0) (sym (are (overran front) refl)) (all_valued (overran front) refl);
      lasts = λ h. omega (arith, laid_lasts σ b p fits ins v h);
      early = all_early (overran front) refl;
      cut = all_cut;
    }
