-- Room for a listing.
use Rattle.std.specs.Prelude.{ℕ, ◌+◌, ◌*◌, ◌≤◌, List, length}
use Rattle.text.specs.Pieces.{HasRoom}
use Rattle.text.specs.declared.Page.{Page}

-- the laid file and the table have so many records, and the page has room for a line of each and one more
pub record Room (laid table : List ℕ) (records : ℕ) (page : Page) : Type 0 where
  pub file : 12 * records ≤ length laid
  pub starts : records ≤ length table
  pub lines : HasRoom (64 * records + 64) page
