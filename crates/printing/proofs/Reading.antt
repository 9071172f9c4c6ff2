-- What was read stands at the front of the buffer.
use Rattle.std.proofs.Common.{◌≡◌, ℕ, ◌+◌, ◌≤◌, List, ◌++◌, length, take, ap, ◌∙◌, subst, length-take-le}
use Rattle.std.proofs.Math.Seq.{take-append-add}
use Rattle.std.proofs.lemmas.List.{take-append-le}
use borrow.Rule.Slice.PartMut.{put_mid, post_of}

-- what one read more has put into the rest of the buffer
pub read_on : (buf ys : List ℕ) (done k n : ℕ) → done ≤ length buf → n ≤ length ys → take (done + n) (put_mid done k buf ys) ≡ take done buf ++ take n ys
read_on buf ys done k n h few =
    let e : length (take done buf) ≡ done = length-take-le done buf h in
    let rest = ys ++ post_of done k buf in
    subst (λ (i : ℕ). take (i + n) (take done buf ++ rest) ≡ take done buf ++ take n rest) e (take-append-add (take done buf) rest n)
    ∙ ap (λ (l : List ℕ). take done buf ++ l) (take-append-le n ys (post_of done k buf) few)
