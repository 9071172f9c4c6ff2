-- What a call of the crates below answers is packed as its reply is.
use Prim.Native.Nat.{ℕ, ◌*◌, ◌≤◌}
use native.Mathlib.Omega.{arith}
use mathlib.Core.Path.{◌≡◌, ap, sym, ◌∙◌}
use mathlib.Core.List.{List}
use Rattle.model.specs.declared.Form.{Form}
use Rattle.model.specs.{Trees.size, Runs.Buffers, Limits.file_length}
use Rattle.model.specs.Answers.{Verdict, finished, refused}
use Rattle.model.specs.Replies.{equalised_tree, equalise_reply, laid_tree, lay_out_reply, equalised_of, prepare_reply}
use Rattle.preparation.proofs.Chaining.{second_done}
use Rattle.theory.proofs.Accepted.{equalise_accepted, lay_out_accepted}
use Rattle.packing.specs.Words.{first_in, run_word, packed}

-- The bytes written have room in bits 0 to 23.
pub equalised_few : (s file : List ℕ) (room : ℕ) (v : Verdict) → v ≡ equalise_reply s file room → first_in v ≤ 65532
equalised_few s file room (finished xs) e =
    let a = equalise_accepted s file room xs (sym e) in
    let bytes : 12 * size (equalised_tree s file) ≡ first_in (finished xs) = ap (λ (ys : List ℕ). first_in (finished ys)) a.answers in
    omega (arith, a.has_room.few)
equalised_few s file room (refused n xs) e = omega arith

pub laid_few : (s file : List ℕ) (room : ℕ) (v : Verdict) → v ≡ lay_out_reply s file room → first_in v ≤ 65532
laid_few s file room (finished xs) e =
    let a = lay_out_accepted s file room xs (sym e) in
    let bytes : 12 * size (laid_tree s file) ≡ first_in (finished xs) = ap (λ (ys : List ℕ). first_in (finished ys)) a.answers in
    omega (arith, a.has_room.few)
laid_few s file room (refused n xs) e = omega arith

pub prepared_few : (s task : List ℕ) (room : ℕ) (v : Verdict) → v ≡ prepare_reply s task room → first_in v ≤ 65532
unfolding prepare_reply
prepared_few s task room (finished xs) e = laid_few s (equalised_of s task) room (finished xs) (second_done (equalise_reply s task file_length) _ e)
prepared_few s task room (refused n xs) e = omega arith

-- A call on a file whose form came as a number.
pub by_form : (reply : Form → Verdict) (left : Form → Buffers) {f g : Form} {v : Verdict} {b : Buffers} {r : ℕ}
    → f ≡ g → v ≡ reply f → b ≡ left f → r ≡ packed run_word v → (r ≡ packed run_word (reply g)) × (b ≡ left g)
by_form reply left e answer leaves packs = (packs ∙ ap (packed run_word) (answer ∙ ap reply e), leaves ∙ ap left e)
