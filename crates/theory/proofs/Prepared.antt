-- The files of a chain that equalising and laying out did not refuse: each run on them is not refused, and leaves what the task's run leaves.
use Prim.Native.Nat.{ℕ}
use native.Mathlib.Omega.{arith}
use mathlib.Core.Path.{◌≡◌, refl, ap, sym, ◌∙◌, subst}
use mathlib.Core.{Bool.true, List.List}
use lib.ListN.{length, take}
use Rattle.model.specs.declared.Form.TheVariants.{Task, Laid}
use Rattle.model.specs.{Settings.settings_of, Trees.Block, Trees.file_tree, Runs.run, Equalising.equalise, Layout.layout}
use Rattle.model.specs.{Placement.Fits, Placement.Placed}
use Rattle.model.specs.Answers.{Verdict, finished, refused, is_finished, value_at}
use Rattle.model.specs.Replies.{equalised_tree, laid_tree, lay_out_reply, lay_out_out}
use Rattle.model.specs.Chain.{Chain, equalising, laying_out, laid_file}
use Rattle.laws.proofs.Passes.{tree_back}
use Rattle.theory.proofs.{Views.Alike, Views.alike_trans, Traces.traced, Agreement.run_equalise, Laid.placed_laid, Laid.run_laid}
use Rattle.theory.proofs.Accepted.{EqualiseAccepted, equalise_accepted, lay_out_accepted, Runnable}
use Rattle.theory.proofs.Files.{file_of, equalised_form, task_runnable, equalised_file_is, laid_runnable, laid_file_is}

-- an answer that is no refusal
pub finish : (r : Verdict) → is_finished r ≡ true → (xs : List ℕ) × (r ≡ finished xs)
finish (finished xs) e = (xs, refl)
finish (refused n xs) e = let z : ◌≡◌ {A = ℕ} 0 1 = cc in absurd (omega arith)

-- the laid file holds the block b, and the task's tree is t
pub record Prepared (s task file : List ℕ) (t b : Block) : Type 0 where
  pub plain : Runnable s Task task t
  pub laid : Runnable s Laid (file_of b) b
  pub is : file ≡ file_of b
  pub fits : Fits (settings_of s)
  pub placed : Placed (settings_of s) b 0
  pub agrees : (ins : List ℕ) (i j : ℕ) → Alike traced (run (settings_of s) ins b i) (run (settings_of s) ins t j)

-- of a task that was equalised, laid out from the file that holds it
laid_from : (s task : List ℕ) (room : ℕ) (xs : List ℕ) → EqualiseAccepted s task room xs
    → (out ys : List ℕ) → lay_out_reply s (file_of (equalise (settings_of s) (file_tree task))) (length out) ≡ finished ys
    → Prepared s task
    (take (value_at 0 (lay_out_reply s (file_of (equalise (settings_of s) (file_tree task))) (length out))) (lay_out_out s (file_of (equalise (settings_of s) (file_tree task))) out))
    (file_tree task) (layout (settings_of s) (equalise (settings_of s) (file_tree task)))
unfolding equalised_tree laid_tree
laid_from s task room xs a out ys q =
    let σ = settings_of s in
    let t = file_tree task in
    let e = equalise σ t in
    let l = lay_out_accepted s (file_of e) (length out) ys q in
    let same : layout σ (file_tree (file_of e)) ≡ layout σ e = ap (layout σ) (tree_back e) in
    let form = equalised_form s task room xs a in
    record {
      plain = task_runnable s task room xs a;
      laid = subst (λ (x : Block). Runnable s Laid (file_of x) x) same (laid_runnable s (file_of e) (length out) ys l);
      is = laid_file_is s (file_of e) out ys q ∙ ap file_of same;
      fits = l.fits_window;
      placed = placed_laid σ e form l.fits_window;
      agrees = λ ins i j. alike_trans (run_laid σ e form ins i i) (run_equalise σ ins t i j);
    }

pub prepared : (k : Chain) → is_finished (equalising k) ≡ true → is_finished (laying_out k) ≡ true
    → Prepared k.settings k.task (laid_file k) (file_tree k.task) (layout (settings_of k.settings) (equalise (settings_of k.settings) (file_tree k.task)))
unfolding equalised_tree
prepared k equalised laid =
    let s = k.settings in
    let p = finish (equalising k) equalised in
    let q = finish (laying_out k) laid in
    let from = equalised_file_is s k.task k.equalised_room p.0 p.1 in
    subst
    (λ (file : List ℕ).
    lay_out_reply s file (length k.laid_room) ≡ finished q.0
    → Prepared s k.task (take (value_at 0 (lay_out_reply s file (length k.laid_room))) (lay_out_out s file k.laid_room)) (file_tree k.task)
    (layout (settings_of s) (equalise (settings_of s) (file_tree k.task))))
    (sym from)
    (laid_from s k.task (length k.equalised_room) p.0 (equalise_accepted s k.task (length k.equalised_room) p.0 p.1) k.laid_room q.0)
    q.1
