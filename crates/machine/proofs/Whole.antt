-- From a run of the file's records to what the calls answer and leave.
use Prim.Native.Nat.{ℕ, ◌+◌, ◌*◌, ◌-◌, ◌/◌, ◌≤◌, ◌<◌}
use native.Mathlib.{Nat.sub-zero, Omega.arith}
use mathlib.Core.Path.{◌≡◌, refl, ap, ap₂, sym, subst, ◌∙◌}
use mathlib.Core.Bool.{Bool, true, false, not, ◌||◌, or-true, false≢true}
use mathlib.Core.List.{List, [], ◌∷◌}
use lib.Dec.{eqb, ltb}
use lib.ListN.{length, get_or-eq_default, replicate}
use borrow.Author.Tests.{not-true, not-false, eqb-true, ltb-true, ltb-false, lt-ltb, le-ltb, le-leb, lt-leb, ne_eqb}
use Rattle.model.specs.declared.{Settings.Settings, Ran.Ran, Refusal.Refusal}
use Rattle.model.specs.Trees.{Block, nil, ◌⧺◌, size, file_tree}
use Rattle.model.specs.Runs.{Step, duration, variables_after, outputs_after, level, mark, overran, Buffers, leave, cleared, run}
use Rattle.model.specs.Stopping.{upto, Image, Saved, none, last_image, image_of, rest, take_up}
use Rattle.model.specs.Replies.{ended, bad_lengths, is_saved, stop_rows, image_over, after_save, stray_image, buffers_of}
use Rattle.model.specs.Answers.{Verdict, finished, refused, bit, kept}
use Rattle.laws.proofs.{Trees.⧺-nil}
use Rattle.model.specs.{Placement.LoopFree}
use Rattle.laws.proofs.Shapes.{neither}
use Rattle.theory.proofs.{Sequences.⊳-nil, Reached.rest_reached, Stops.upto_all, Within.run_within}
use Rattle.reading.proofs.Walking.{whole_file}
use Rattle.std.specs.Prelude.{Result, Ok, Err}
use Rattle.stepping.specs.declared.progress.{Place.Place, Halt.Halt, Halt.TheVariants.Cut, Halt.TheVariants.Overran}
use Rattle.stepping.specs.declared.store.{Image.Image as Kept, Store.Store}
use Rattle.stepping.specs.Machines.{Held, pictured, held, empty, Machine, machine, does, runs}
use Rattle.stepping.specs.Steps.{going, reached}
use Rattle.stepping.specs.Buffers.{with_variables, with_outputs, Stored, StoredImage}
use Rattle.running.specs.Promises.{at_end, Chain, along, Started, RecordsRan}
use Rattle.running.proofs.{Files.file_sound, Files.file_size, Doing.held_after, Doing.does_upto, Running.runs_same}
use Rattle.running.proofs.Positions.{joined, Position, position, rest_shorter}
use Rattle.running.proofs.Bare.{bare, ahead_joined, runs_bare}
use Rattle.model.specs.Records.{Bytes}
use Rattle.machine.proofs.Marks.{marks_bytes}
use Rattle.machine.specs.Calls.{told, was_cut, ReadyToRun, steps, RunWhole, StopsSound, again_rows, Resumes}

-- LENGTHS

pub equal_of : (a b : ℕ) → not (eqb a b) ≡ false → a ≡ b
equal_of a b e = eqb-true a b (not-false (eqb a b) e)

-- buffers of the table's lengths
pub record Lengths (v i l m : ℕ) : Type 0 where
  pub variables : v ≡ 16
  pub inputs : i ≡ 8
  pub levels : l ≡ 8
  pub marks : m ≡ 8

good_lengths : (v i l m : ℕ) → bad_lengths v i l m ≡ false → Lengths v i l m
good_lengths v i l m e =
    let c = neither (not (eqb v 16) || not (eqb i 8) || not (eqb l 8)) (not (eqb m 8)) e in
    let b = neither (not (eqb v 16) || not (eqb i 8)) (not (eqb l 8)) c.0 in
    let a = neither (not (eqb v 16)) (not (eqb i 8)) b.0 in
    record { variables = equal_of v 16 a.0; inputs = equal_of i 8 a.1; levels = equal_of l 8 b.1; marks = equal_of m 8 c.1 }

-- WHAT STEPS LEAVE

-- the steps us are done from tick t on, from b on
pub record Left (us : List Step) (t : ℕ) (b : Buffers) (e : Ran) (new : Store) : Type 0 where
  pub tick : e.tick ≡ t + duration us
  pub overran_too : e.overran ≡ overran us
  pub variables : (held new).variables ≡ variables_after us b.variables
  pub levels : (held new).levels ≡ outputs_after level us b.levels
  pub marks : (held new).marks ≡ outputs_after mark us b.marks

module _ {us : List Step} {t : ℕ} {b : Buffers} {e : Ran} {new : Store} (L : Left us t b e new) where
  pub left_bytes : Bytes b.marks → Bytes (held new).marks
  left_bytes h = subst Bytes (sym L.marks) (marks_bytes us b.marks h)

  left_stored : {v l m : List ℕ} → Stored (held new) v l m → buffers_of v l m ≡ leave us b
  left_stored S = rw (S.variables ∙ L.variables, S.levels ∙ L.levels, S.marks ∙ L.marks)

-- what is answered of where a run ended
told_tick : (r : Result Place Halt) (new : Store) → (told r).tick ≡ (reached r new).tick
told_tick (Ok p) new = refl
told_tick (Err (Cut t)) new = refl
told_tick (Err (Overran t)) new = refl

reached_holds : (r : Result Place Halt) (new : Store) → held new ≡ (reached r new).holds
reached_holds (Ok p) new = refl
reached_holds (Err (Cut t)) new = refl
reached_holds (Err (Overran t)) new = refl

cut_is : (r : Result Place Halt) (new : Store) → was_cut r ≡ (reached r new).cut
cut_is (Ok p) new = refl
cut_is (Err (Cut t)) new = refl
cut_is (Err (Overran t)) new = refl

told_overran : (r : Result Place Halt) (new : Store) → (told r).overran ≡ (reached r new).overran
told_overran (Ok p) new = refl
told_overran (Err (Cut t)) new = refl
told_overran (Err (Overran t)) new = refl

-- THE WHOLE FILE

module _ {file : List ℕ} {σ : Settings} {v ins l m : List ℕ} (R : ReadyToRun file σ v ins l m) where
  pub lent : Lengths (length v) (length ins) (length l) (length m)
  lent = good_lengths (length v) (length ins) (length l) (length m) R.lengths

  abbrev whole_chain : Chain R.form file 0 (length file / 12)
  whole_chain = record { file = whole_file R.sound; pending = []; follows = at_end {k = 0 + size (file_tree file)} (omega (arith, file_size R.sound)) }

  pub whole_started : {limit : ℕ} → Started file 0 ins limit 0
  whole_started = record { form = R.form; sound = R.sound; inputs = lent.inputs; early = omega arith; chain = whole_chain }

  -- run from what h holds, up to a limit
  module _ {limit : ℕ} {w new : Store} {r : Result Place Halt} {h : Held} (B : RecordsRan file 0 (length file / 12) σ ins limit 0 w new r) (k : held w ≡ h) (same : h.variables ≡ v) where
    abbrev done : List Step
    done = upto limit (steps file σ ins v)

    abbrev outcome : List Step → ℕ → Machine
    outcome es c = machine (0 + duration (upto c es)) (ltb c (duration es)) (overran (upto c es)) (held_after (upto c es) 0 h)

    whole_reaches : reached r new ≡ outcome (steps file σ ins v) limit
    unfolding runs
    whole_reaches =
        (B.right R.form whole_chain).reaches
        ∙ runs_same limit (machine 0 false false (held w)) (⊳-nil (run σ ins (file_tree file) 0))
        ∙ ap (λ (x : Held). does limit (run σ ins (file_tree file) 0 x.variables) (machine 0 false false x)) k
        ∙ ap (λ (x : List ℕ). does limit (run σ ins (file_tree file) 0 x) (machine 0 false false h)) same
        ∙ does_upto limit (steps file σ ins v) 0 false h (omega arith)
        ∙ ap (outcome (steps file σ ins v)) (sub-zero limit)

    whole_holds : held new ≡ held_after done 0 h
    whole_holds = reached_holds r new ∙ ap (λ (x : Machine). x.holds) whole_reaches

    whole_left : Left done 0 (buffers_of v h.levels h.marks) (told r) new
    whole_left = record {
      tick = told_tick r new ∙ ap (λ (x : Machine). x.tick) whole_reaches;
      overran_too = told_overran r new ∙ ap (λ (x : Machine). x.overran) whole_reaches;
      variables = ap (λ (x : Held). x.variables) whole_holds ∙ ap (variables_after done) same;
      levels = ap (λ (x : Held). x.levels) whole_holds;
      marks = ap (λ (x : Held). x.marks) whole_holds;
    }

    whole_cut : was_cut r ≡ ltb limit (duration (steps file σ ins v))
    whole_cut = cut_is r new ∙ ap (λ (x : Machine). x.cut) whole_reaches

    whole_image : (held new).image ≡ last_image done 0 v h.image
    whole_image = ap (λ (x : Held). x.image) whole_holds ∙ ap (λ (x : List ℕ). last_image done 0 x h.image) same

  -- WHOLE: it ends within the period

  module _ {w new : Store} {r : Result Place Halt} (B : RecordsRan file 0 (length file / 12) σ ins σ.period 0 w new r)
      (k : held w ≡ with_outputs l m (with_variables v empty)) where
    all_done : upto σ.period (steps file σ ins v) ≡ steps file σ ins v
    all_done = upto_all σ.period (steps file σ ins v) (omega (arith, (run_within σ ins (file_tree file) 0).in_all v, R.in_time))

    pub run_left : Left (steps file σ ins v) 0 (buffers_of v l m) (told r) new
    run_left = subst (λ (us : List Step). Left us 0 (buffers_of v l m) (told r) new) all_done (whole_left B k refl)

    pub run_ran : {v' l' m' : List ℕ} → Stored (held new) v' l' m' → RunWhole file σ ins v l m v' l' m' (told r)
    run_ran S = record { tick = omega (arith, run_left.tick); overran_too = run_left.overran_too; leaves = left_stored run_left S }

  -- UP TO A STOP TICK

  module _ {stop : ℕ} {w new : Store} {r : Result Place Halt} (B : RecordsRan file 0 (length file / 12) σ ins stop 0 w new r) (a : held w ≡ with_variables v empty) where
    abbrev es : List Step
    es = steps file σ ins v

    pub stop_left : Left (upto stop es) 0 (cleared v) (told r) new
    stop_left = whole_left B a refl

    abbrev result : Saved
    result = last_image (upto stop es) 0 v none

    pub stop_late : {image : List ℕ} {o : Bool} → o ≡ was_cut r → not o ≡ true → StopsSound file σ ins stop v l m image v l m image (Err Refusal.LateStop)
    stop_late {image} {o} w n =
        let c = ltb-false stop (duration es) (sym (whole_cut B a refl) ∙ sym w ∙ not-true o n) in
        let r : refused 12 [] ≡ stop_rows es v stop = rw (le-leb (duration es) stop c) in
        record {
          reply = r;
          leaves = ap (λ (x : Verdict). kept x (leave (upto stop es) (cleared v)) (buffers_of v l m)) r;
          saves = ap (λ (x : Verdict). kept x (image_over result image) image) r;
        }

    pub stop_done : {image v' l' m' image' : List ℕ} {o k : Bool} → k ≡ was_cut r → not k ≡ false → Stored (held new) v' l' m' → StoredImage (held new).image image image' o
        → StopsSound file σ ins stop v l m image v' l' m' image' (Ok (record { tick = stop; saved = o }))
    stop_done {image} {v'} {l'} {m'} {image'} {o} {k} w n S I =
        let c = ltb-true stop (duration es) (sym (whole_cut B a refl) ∙ sym w ∙ not-false k n) in
        let i = whole_image B a refl in
        let r : finished (stop ∷ 0 ∷ bit (is_saved result) ∷ []) ≡ stop_rows es v stop = rw (lt-leb (duration es) stop c) in
        record {
          reply = ap (λ (b : Bool). finished (stop ∷ 0 ∷ bit b ∷ [])) (I.told ∙ ap is_saved i) ∙ r;
          leaves = left_stored stop_left S ∙ ap (λ (x : Verdict). kept x (leave (upto stop es) (cleared v)) (buffers_of v l m)) r;
          saves = I.bytes ∙ ap (λ (s : Saved). image_over s image) i ∙ ap (λ (x : Verdict). kept x (image_over result image) image) r;
        }

-- RUN CLEARS THE OUTPUTS FIRST

module _ {file : List ℕ} {σ : Settings} {v ins l₀ m₀ : List ℕ} where
  pub cleared_ready : {l m : List ℕ} → ReadyToRun file σ v ins l m → l₀ ≡ replicate 8 0 → m₀ ≡ replicate 8 0 → ReadyToRun file σ v ins l₀ m₀
  cleared_ready R e k = record {
    form = R.form;
    sound = R.sound;
    in_time = R.in_time;
    short = R.short;
    lengths = rw (e, k, (lent R).variables, (lent R).inputs);
  }

  pub cleared_run : {v' l' m' : List ℕ} {p : Ran} → l₀ ≡ replicate 8 0 → m₀ ≡ replicate 8 0 → RunWhole file σ ins v l₀ m₀ v' l' m' p
      → RunWhole file σ ins v (replicate 8 0) (replicate 8 0) v' l' m' p
  cleared_run {v'} {l'} {m'} {p} e k W =
      subst (λ (x : List ℕ). RunWhole file σ ins v (replicate 8 0) x v' l' m' p) k (subst (λ (x : List ℕ). RunWhole file σ ins v x m₀ v' l' m' p) e W)

-- FROM AN IMAGE ON

-- no record is there
beyond : (file : List ℕ) {j : ℕ} → (j ≡ 0 → ⊥) → length file ≤ 12 * (j - 1) → false ≡ after_save file j
beyond file {j} h l = ap (λ (k : ℕ). eqb k 12) (sym (get_or-eq_default file 0 l)) ∙ rw (ne_eqb j 0 h)

module _ {file : List ℕ} {σ : Settings} {v ins l m : List ℕ} (R : ReadyToRun file σ v ins l m) (M : Image) where
  abbrev leaving : Image → Buffers
  leaving x = kept (again_rows file σ ins x) (leave (take_up σ ins (file_tree file) x) (buffers_of x.variables l m)) (buffers_of v l m)

  -- row 11
  resume_stray : {image : List ℕ} → M ≡ image_of image → stray_image σ file M ≡ true → Resumes file σ ins v l m image v l m (Err Refusal.BadImage)
  resume_stray is e =
      let r : refused 11 [] ≡ again_rows file σ ins M = rw e in
      record {
        reply = r ∙ ap (again_rows file σ ins) is;
        leaves = ap (λ (x : Verdict). kept x (leave (take_up σ ins (file_tree file) M) (buffers_of M.variables l m)) (buffers_of v l m)) r ∙ ap leaving is;
      }

  module _ (a : after_save file M.index ≡ true) (p : M.tick ≤ σ.period) where
    abbrev j : ℕ
    j = M.index

    abbrev t : ℕ
    t = M.tick

    not_zero : j ≡ 0 → ⊥
    not_zero z = false≢true (sym (ap (after_save file) z) ∙ a)

    in_file : j ≤ length file / 12
    in_file = go (ltb (12 * (j - 1)) (length file)) refl
      where
        go : (o : Bool) → ltb (12 * (j - 1)) (length file) ≡ o → j ≤ length file / 12
        go true e = omega (arith, ltb-true (12 * (j - 1)) (length file) e, (file_sound R.sound).whole_records)
        go false e = absurd (false≢true (beyond file (λ z. not_zero z) (ltb-false (12 * (j - 1)) (length file) e) ∙ a))

    loop_free : LoopFree (file_tree file)
    loop_free = rest_reached R.form file j R.sound.sound a

    -- what stands at the record, and is left after it
    place : Position R.form file (length file / 12) j (rest (file_tree file) (j - 0) ⧺ nil)
    place = position (file_tree file) 0 j [] loop_free (whole_chain R).file.stands (whole_chain R).follows (omega arith) (omega (arith, in_file, file_size R.sound))

    place_is : place.chain.file.block ⧺ joined place.chain.pending ≡ rest (file_tree file) j
    place_is = place.is ∙ ⧺-nil (rest (file_tree file) (j - 0)) ∙ ap (rest (file_tree file)) (sub-zero j)

    resume_started : Started file j ins (t + σ.period) t
    resume_started = record {
      form = R.form;
      sound = R.sound;
      inputs = (lent R).inputs;
      early = omega arith;
      chain = place.chain;
    }

    abbrev again : List Step
    again = take_up σ ins (file_tree file) M

    module _ {w new : Store} {r : Result Place Halt} (T : RecordsRan file j (length file / 12) σ ins (t + σ.period) t w new r)
        (k : held w ≡ with_outputs l m (with_variables M.variables empty)) where
      abbrev from : Held
      from = with_outputs l m (with_variables M.variables empty)

      within_period : duration again ≤ σ.period
      unfolding take_up
      within_period = omega (arith, (run_within σ ins (rest (file_tree file) j) j).in_all M.variables, rest_shorter σ (file_tree file) j loop_free, R.in_time)

      abbrev outcome_from : List Step → ℕ → Machine
      outcome_from es c = machine (t + duration (upto c es)) (ltb c (duration es)) (overran (upto c es)) (held_after (upto c es) t from)

      resume_reaches : bare (reached r new) ≡ bare (outcome_from again (t + σ.period - t))
      unfolding runs take_up
      resume_reaches =
          let C = place.chain in
          ap bare (T.right R.form C).reaches
          ∙ runs_bare (t + σ.period) (along σ ins C) (run σ ins (C.file.block ⧺ joined C.pending) j) (going t w)
          (ahead_joined σ ins file C.file.block C.pending j j)
          ∙ ap (λ (b : Block). bare (runs (t + σ.period) (run σ ins b j) (going t w))) place_is
          ∙ ap (λ (x : Held). bare (does (t + σ.period) (run σ ins (rest (file_tree file) j) j x.variables) (machine t false false x))) k
          ∙ ap bare (does_upto (t + σ.period) again t false from (omega arith))

      resume_done : upto (t + σ.period - t) again ≡ again
      resume_done = upto_all (t + σ.period - t) again (omega (arith, within_period))

      resume_left : Left again t (buffers_of M.variables l m) (told r) new
      resume_left =
          let q = resume_reaches in
          subst (λ (us : List Step). Left us t (buffers_of M.variables l m) (told r) new) resume_done
          (record {
            tick = told_tick r new ∙ ap (λ (x : Machine). x.tick) q;
            overran_too = told_overran r new ∙ ap (λ (x : Machine). x.overran) q;
            variables = ap (λ (x : Held). x.variables) (reached_holds r new) ∙ ap (λ (x : Machine). x.holds.variables) q;
            levels = ap (λ (x : Held). x.levels) (reached_holds r new) ∙ ap (λ (x : Machine). x.holds.levels) q;
            marks = ap (λ (x : Held). x.marks) (reached_holds r new) ∙ ap (λ (x : Machine). x.holds.marks) q;
          })

      resume_ran : {image v' l' m' : List ℕ} → M ≡ image_of image → Stored (held new) v' l' m'
          → Resumes file σ ins v l m image v' l' m' (Ok (told r))
      resume_ran is S =
          let r : ended t again ≡ again_rows file σ ins M = rw (a, le-ltb σ.period t p) in
          record {
            reply = ap₂ (λ (x : ℕ) (o : Bool). finished (x ∷ bit o ∷ [])) resume_left.tick resume_left.overran_too ∙ r ∙ ap (again_rows file σ ins) is;
            leaves = left_stored resume_left S ∙ ap (λ (x : Verdict). kept x (leave again (buffers_of M.variables l m)) (buffers_of v l m)) r ∙ ap leaving is;
          }

-- THE IMAGE THAT WAS READ

-- whether it can be taken up, as it was tried
tried : (file : List ℕ) (i : ℕ) {o : Bool} → o ≡ after_save file i → not o ≡ false → after_save file i ≡ true
tried file i {o} s n = sym s ∙ not-false o n

module _ {file : List ℕ} {σ : Settings} {v ins l m : List ℕ} (R : ReadyToRun file σ v ins l m) (M : Kept) {o : Bool} (s : o ≡ after_save file M.index) where
  pub image_started : not o ≡ false → M.tick ≤ σ.period → Started file M.index ins (M.tick + σ.period) M.tick
  image_started n p = resume_started R (pictured M) (tried file M.index s n) p

  pub image_bytes : not o ≡ false → M.tick ≤ σ.period → {w new : Store} {r : Result Place Halt}
      → RecordsRan file M.index (length file / 12) σ ins (M.tick + σ.period) M.tick w new r
      → held w ≡ with_outputs l m (with_variables M.variables empty) → Bytes m → Bytes (held new).marks
  image_bytes n p T k h = left_bytes (resume_left R (pictured M) (tried file M.index s n) p T k) h

  module _ {image : List ℕ} (is : pictured M ≡ image_of image) where
    pub image_stray : not o ≡ true → Resumes file σ ins v l m image v l m (Err Refusal.BadImage)
    image_stray n = resume_stray R (pictured M) is (rw (sym s ∙ not-true o n))

    pub image_late : σ.period < M.tick → Resumes file σ ins v l m image v l m (Err Refusal.BadImage)
    image_late p = resume_stray R (pictured M) is (rw (lt-ltb σ.period M.tick p) (or-true (not (after_save file M.index))))

    pub image_ran : not o ≡ false → M.tick ≤ σ.period → {w new : Store} {r : Result Place Halt}
        → RecordsRan file M.index (length file / 12) σ ins (M.tick + σ.period) M.tick w new r
        → held w ≡ with_outputs l m (with_variables M.variables empty) → {v' l' m' : List ℕ} → Stored (held new) v' l' m'
        → Resumes file σ ins v l m image v' l' m' (Ok (told r))
    image_ran n p T k S = resume_ran R (pictured M) (tried file M.index s n) p T k is S
