-- `lay`, `start_ticks` and `rest` are meant for blocks with no loop, `rest` only past record 0: no reply or listing reaches them with another.
use Prim.Native.Nat.{ℕ, ◌-◌, ◌/◌}
use native.Mathlib.Omega.{arith}
use mathlib.Core.{Path.◌≡◌, Path.refl, Path.subst, List.List}
use mathlib.Core.Bool.{Bool, true, false, cond, false≢true}
use lib.{Dec.eqb, Dec.ltb, ListN.length, ListN.get_or-eq_default}
use borrow.Author.Tests.{ltb-true, ltb-false, eqb-true}
use Rattle.model.specs.declared.Form.{Form}
use Rattle.model.specs.declared.Form.TheVariants.{Task, Equalised, Laid}
use Rattle.model.specs.{Records.kind_at, Records.SAVE, Settings.settings_of, Layout.unroll, Layout.layout, Answers.finished}
use Rattle.model.specs.{Placement.LoopFree}
use Rattle.model.specs.Trees.{Block, nil, skip, act, branch, while, times, file_tree}
use Rattle.model.specs.{Refusals.kind_fits, Refusals.sound, Refusals.fault, Replies.laid_tree, Replies.lay_out_reply, Replies.after_save, Standing.OfForm}
use Rattle.laws.proofs.Sound.{sound_file, sound_kind}
use Rattle.theory.proofs.{Forms.formed, Unrolling.unrolled_loop_free, Placing.placed_loop_free, Laid.placed_laid}
use Rattle.theory.proofs.{Accepted.lay_out_accepted}

-- what laying out unrolls
pub lay_reached : (file : List ℕ) → fault Equalised file ≡ sound → LoopFree (unroll (file_tree file))
lay_reached file e = unrolled_loop_free (file_tree file) (formed Equalised (file_tree file) (sound_file Equalised file e).of_form)

-- a laid file has no loop: WHILE and TIMES are no kinds of it
laid_loop_free : (b : Block) → OfForm Laid b → LoopFree b
laid_loop_free nil p = tt
laid_loop_free (skip n b) p = laid_loop_free b p.1
laid_loop_free (act a b) p = laid_loop_free b p.1
laid_loop_free (branch q a d b) p = (laid_loop_free a p.1, laid_loop_free d p.2, laid_loop_free b p.3)
laid_loop_free (while q n a b) p = absurd (false≢true p.0.kind)
laid_loop_free (times q n a b) p = absurd (false≢true p.0.kind)

-- a record just before an index that may be taken up is a SAVE of the file
save_there : (f : Form) (file : List ℕ) (j : ℕ) → fault f file ≡ sound → after_save file j ≡ true → kind_fits f SAVE ≡ true
save_there f file j e a = go (eqb j 0) a (ltb (j - 1) (length file / 12)) refl
  where
    go : (o : Bool) → cond o false (eqb (kind_at file (j - 1)) SAVE) ≡ true → (i : Bool) → ltb (j - 1) (length file / 12) ≡ i → kind_fits f SAVE ≡ true
    go true h i k = absurd (false≢true h)
    go false h true k =
        let is = eqb-true (kind_at file (j - 1)) SAVE h in
        subst (λ (n : ℕ). kind_fits f n ≡ true) is (sound_kind f file e (j - 1) (ltb-true (j - 1) (length file / 12) k))
    go false h false k =
        let is = eqb-true (kind_at file (j - 1)) SAVE h in
        let none : kind_at file (j - 1) ≡ 0 =
        get_or-eq_default file 0 (omega (arith, ltb-false (j - 1) (length file / 12) k, (sound_file f file e).whole_records)) in
        absurd (omega arith)

-- what is listed
pub starts_reached : (s file : List ℕ) (room : ℕ) (xs : List ℕ) → lay_out_reply s file room ≡ finished xs → LoopFree (laid_tree s file)
unfolding laid_tree
starts_reached s file room xs e =
    let a = lay_out_accepted s file room xs e in
    placed_loop_free (settings_of s) (layout (settings_of s) (file_tree file)) 0
    (placed_laid (settings_of s) (file_tree file) (sound_file Equalised file a.file_sound).of_form a.fits_window)

-- what is taken up past record 0
pub rest_reached : (f : Form) (file : List ℕ) (j : ℕ) → fault f file ≡ sound → after_save file j ≡ true → LoopFree (file_tree file)
rest_reached Task file j e a = absurd (false≢true (save_there Task file j e a))
rest_reached Equalised file j e a = absurd (false≢true (save_there Equalised file j e a))
rest_reached Laid file j e a = laid_loop_free (file_tree file) (sound_file Laid file e).of_form
