-- W-204: blocks of which no SET, or each one, multiplies; refusals 6 and 7; and what follows from the definitions at once.
use Prim.Native.Nat.{ℕ, ◌+◌, ◌*◌, ◌%◌, ◌^◌, ◌<◌}
use native.Mathlib.Omega.{arith}
use mathlib.Core.Path.{◌≡◌, refl, sym, ◌∙◌}
use mathlib.Core.{Logic.◌↔◌, Logic.◌⊎◌, Logic.inl, Logic.inr, Logic.⊎_elim}
use mathlib.Core.Bool.{Bool, true, false, cond, ◌||◌}
use mathlib.Core.List.{List, [], ◌∷◌, ◌++◌}
use lib.{Dec.eqb, Dec.ltb, Dec.leb, ListN.length, ListN.get_or}
use borrow.Author.Tests.{ne_eqb, leb-true, leb-false, ltb-true, ltb-false, lt-ltb}
use Rattle.model.specs.declared.Settings.{Settings}
use Rattle.model.specs.declared.{Form.Form, Form.TheVariants.Equalised}
use Rattle.model.specs.Trees.{Act, set, read, write, check, beat, save, Block, size, file_tree}
use Rattle.model.specs.{Records.word_at, Settings.settings_of, Settings.bad_settings, Times.ticks, Times.time, Times.longest}
use Rattle.model.specs.Runs.{assigns, Step, variables_after, right_value, result_of, effect}
use Rattle.model.specs.Stopping.{Image, rest, take_up}
use Rattle.model.specs.{Layout.layout, Layout.total, Placement.Each, Refusals.op_fits, Refusals.variable, Refusals.sound, Refusals.fault}
use Rattle.model.specs.{Answers.Verdict, Answers.finished, Answers.refused}
use Rattle.model.specs.Replies.{turn_down, reading, short_window, above, no_room, lay_out_rows, lay_out_reply}
use Rattle.laws.proofs.Shapes.{and_left}
use Rattle.theory.specs.Multiplying.{Multiplies, BadMultiply, NoMultiply, OnlyMultiply, retimed, SameBlock, SevenCause, StepOf, Multiplying}
use Rattle.theory.proofs.{Accepted.in_range, Accepted.reads, Each.each_map, Within.run_within}
use Rattle.theory.proofs.{Follows.follow, StepTicks.step_lasts, Widened.is_narrow, Widened.is_wide}

-- BLOCKS

no_multiply : (σ : Settings) (m : ℕ) (p : Act) → NoMultiply p → ticks (retimed σ.set σ.read σ.write m σ) p ≡ ticks σ p
no_multiply σ m (set o t l x) h = rw (ne_eqb (o % 16) 3 h)
no_multiply σ m (read a p) h = refl
no_multiply σ m (write a p) h = refl
no_multiply σ m (check q) h = refl
no_multiply σ m (beat x) h = refl
no_multiply σ m (save n) h = refl

only_multiply : (σ : Settings) (n : ℕ) (p : Act) → OnlyMultiply p → ticks (retimed n σ.read σ.write σ.multiply σ) p ≡ ticks σ p
only_multiply σ n (set o t l x) h = rw h
only_multiply σ n (read a p) h = refl
only_multiply σ n (write a p) h = refl
only_multiply σ n (check q) h = refl
only_multiply σ n (beat x) h = refl
only_multiply σ n (save m) h = refl

unused : (σ : Settings) (m : ℕ) (b : Block) → Each NoMultiply b → SameBlock σ (retimed σ.set σ.read σ.write m σ) b
unused σ m b x = follow σ σ.set σ.read σ.write m b (each_map NoMultiply _ (no_multiply σ m) b x)

only : (σ : Settings) (n : ℕ) (b : Block) → Each OnlyMultiply b → SameBlock σ (retimed n σ.read σ.write σ.multiply σ) b
only σ n b x = follow σ n σ.read σ.write σ.multiply b (each_map OnlyMultiply _ (only_multiply σ n) b x)

-- AT ONCE

operations : (o x : ℕ) → op_fits 3 o x ≡ true → (Multiplies o) ↔ ((o ≡ 3) ⊎ (o ≡ 19))
operations o x h = (λ e. there (leb 16 o) refl e, λ e. ⊎_elim (λ (y : o ≡ 3). rw y) (λ (y : o ≡ 19). rw y) e)
  where
    there : (b : Bool) → leb 16 o ≡ b → o % 16 ≡ 3 → (o ≡ 3) ⊎ (o ≡ 19)
    there true y e = inr (let l = leb-true 16 o y in let k = leb-true o 19 (and_left (leb o 19) (variable x) (rw y at h)) in omega arith)
    there false y e = inl (let l = leb-false 16 o y in omega arith)

bad : (s : List ℕ) → length s ≡ 24 → BadMultiply (word_at s 20) → bad_settings s ≡ true
bad s long h = go (bad_settings s) refl
  where
    go : (o : Bool) → bad_settings s ≡ o → bad_settings s ≡ true
    go true e = e
    go false e =
        let I = in_range s e in
        let w : (settings_of s).multiply ≡ word_at s 20 = rw (is_wide s long) in
        let most = I.multiply_limit in
        absurd (⊎_elim (λ z. omega (arith, I.positive.multiply_lasts)) (λ z. omega (arith, most, w)) h)

-- one of four is the longest
cause : (σ : Settings) → short_window σ ≡ true → SevenCause σ
cause σ e = go (ltb w (c + σ.set)) refl (ltb w (c + σ.multiply)) refl (ltb w (c + σ.read)) refl
  where
    w : ℕ
    w = σ.window

    c : ℕ
    c = σ.beat + σ.save

    short : w < c + longest σ
    short = ltb-true w (c + longest σ) e

    go : (x : Bool) → ltb w (c + σ.set) ≡ x → (y : Bool) → ltb w (c + σ.multiply) ≡ y → (z : Bool) → ltb w (c + σ.read) ≡ z → SevenCause σ
    go true h y i z j = inl (ltb-true w (c + σ.set) h)
    go false h true i z j = inr (inl (ltb-true w (c + σ.multiply) i))
    go false h false i true j = inr (inr (inl (ltb-true w (c + σ.read) j)))
    go false h false i false j =
        let p = ltb-false w (c + σ.set) h in
        let q = ltb-false w (c + σ.multiply) i in
        let r = ltb-false w (c + σ.read) j in
        inr (inr (inr (omega (arith, short))))

is_short : (σ : Settings) → SevenCause σ → short_window σ ≡ true
is_short σ h = lt-ltb σ.window (σ.beat + σ.save + longest σ) (below h)
  where
    below : SevenCause σ → σ.window < σ.beat + σ.save + longest σ
    below (inl x) = omega arith
    below (inr (inl x)) = omega arith
    below (inr (inr (inl x))) = omega arith
    below (inr (inr (inr x))) = omega arith

-- the rows after 7 answer otherwise
not_seven : (x y : Bool) (xs : List ℕ) {A : Type 0} → turn_down 8 x (turn_down 9 y (finished xs)) ≡ refused 7 [] → A
not_seven true y xs e = let z : ◌≡◌ {A = ℕ} 0 1 = cc in absurd (omega arith)
not_seven false true xs e = let z : ◌≡◌ {A = ℕ} 0 1 = cc in absurd (omega arith)
not_seven false false xs e = let z : ◌≡◌ {A = ℕ} 0 1 = cc in absurd (omega arith)

rows_seven : (σ : Settings) (b : Block) (room : ℕ) → lay_out_rows σ b room ≡ refused 7 [] → SevenCause σ
rows_seven σ b room = go (short_window σ) refl
  where
    go : (o : Bool) → short_window σ ≡ o → lay_out_rows σ b room ≡ refused 7 [] → SevenCause σ
    go true h e = cause σ h
    go false h e =
        let n = size (layout σ b) in
        not_seven (above σ (time σ b) || above σ (total σ b)) (no_room room n) (12 * n ∷ total σ b ∷ []) (rw h at e)

seven : (s file : List ℕ) (room : ℕ) → bad_settings s ≡ false → fault Equalised file ≡ sound
    → (lay_out_reply s file room ≡ refused 7 []) ↔ SevenCause (settings_of s)
unfolding lay_out_reply
seven s file room good fine =
    let read = reads s Equalised file (lay_out_rows (settings_of s) (file_tree file) room) good fine in
    (λ e. rows_seven (settings_of s) (file_tree file) room (sym read ∙ e), λ h. read ∙ rw (is_short (settings_of s) h))

refused_6 : (s : List ℕ) → bad_settings s ≡ true → (f : Form) (file : List ℕ) (next : Verdict) → reading s f file next ≡ refused 6 []
unfolding reading
refused_6 s e f file next = rw e

product : (ins v : List ℕ) (o t l x : ℕ) → Multiplies o → effect ins (set o t l x) v ≡ assigns t (get_or v l 0 * right_value o x v % 2 ^ 32)
unfolding effect result_of
product ins v o t l x e = rw e

taken_up_lasts : (σ : Settings) (ins : List ℕ) (b : Block) (m : Image) (pre : List Step) (e : Step) (post : List Step)
    → take_up σ ins b m ≡ pre ++ e ∷ post → StepOf σ ins (rest b m.index) m.index (variables_after pre m.variables) e
unfolding take_up
taken_up_lasts σ ins b m = step_lasts σ ins m.variables (rest b m.index) m.index

one_time : (σ : Settings) → σ.multiply ≡ σ.set → (o t l x : ℕ) → ticks σ (set o t l x) ≡ σ.set
one_time σ e o t l x = either (eqb (o % 16) 3)
  where
    either : (b : Bool) → cond b σ.multiply σ.set ≡ σ.set
    either true = e
    either false = refl

pub multiplying : Multiplying
multiplying = record {
  wide = λ s long. rw (is_wide s long);
  narrow = λ s twelve. rw (is_narrow s twelve);
  bad = λ s long h. refused_6 s (bad s long h);
  operations = operations;
  multiplies = λ σ o t l x e. rw e;
  others = λ σ o t l x h. rw (ne_eqb (o % 16) 3 h);
  product = product;
  lasts = step_lasts;
  taken_up_lasts = taken_up_lasts;
  within = λ σ ins v b i. (run_within σ ins b i).in_all v;
  follow = follow;
  unused = unused;
  only = only;
  seven = seven;
  single = one_time;
}
