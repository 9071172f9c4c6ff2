-- A piece of text in a page.
use Rattle.std.specs.Prelude.{ℕ, ◌+◌, ◌≤◌, ◌≡◌, List, length}
use Rattle.std.proofs.lemmas.List.Edits.{sets}
use Rattle.text.specs.declared.Page.{Page}

-- n bytes more fit in the page
abbrev pub HasRoom : ℕ → Page → Type 0
HasRoom n p = p.len + n ≤ length p.bytes.now

-- the piece stands in the page after what was written; the rest of the page is as it was, and its buffer the same
pub record Put (piece : List ℕ) (old new : Page) : Type 0 where
  pub page : new.bytes.now ≡ sets old.bytes.now old.len piece
  pub ends : new.len ≡ old.len + length piece
  pub same_reference : new.bytes.ghost_name ≡ old.bytes.ghost_name
  pub same_length : length new.bytes.now ≡ length old.bytes.now

-- a piece of at most n bytes
pub record PutWithin (n : ℕ) (piece : List ℕ) (old new : Page) : Type 0 where
  pub put : Put piece old new
  pub short : length piece ≤ n
