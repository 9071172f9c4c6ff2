-- The first statement of a block.
use Rattle.model.specs.Trees.{Block, nil, skip, act, branch, while, times}

-- alone
abbrev pub only : Block → Block
only nil = nil
only (skip n b) = skip n nil
only (act p b) = act p nil
only (branch q a d b) = branch q a d nil
only (while q n a b) = while q n a nil
only (times q n a b) = times q n a nil
