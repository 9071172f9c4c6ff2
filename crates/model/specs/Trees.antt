-- Document 01, "Records", on blocks: a file as a tree, the records of a tree, and the tree of records.
use Rattle.std.specs.Prelude.{ℕ, ◌+◌, max, cond, List, [], ◌∷◌, ◌++◌, eqb}
use Rattle.model.specs.Records.{Rec, rec, SKIP, SET, READ, WRITE, IF, ELSE, WHILE, END, TIMES, CHECK, BEAT, SAVE, records}

-- "IF, WHILE, TIMES, CHECK hold a test: byte 1 the relation .., byte 3 the left variable, bytes 4 to 7 the right value."
pub record Test : Type 0 where
  pub relation : ℕ
  pub left : ℕ
  pub right : ℕ

-- a record that opens and closes no block
pub data Act : Type 0 where
  set : ℕ → ℕ → ℕ → ℕ → Act  -- operation, target variable, left variable, right value
  read : ℕ → ℕ → Act  -- variable, port
  write : ℕ → ℕ → Act  -- variable, port
  check : Test → Act
  beat : ℕ → Act  -- value
  save : ℕ → Act  -- the number in bytes 4 to 7, which are unused: 0

-- "IF always has one ELSE and an END; any part may be empty. WHILE and TIMES close with END."
-- A block is empty, or a statement and the block after it, which is the last argument.
pub data Block : Type 0 where
  nil : Block
  skip : ℕ → Block → Block  -- count
  act : Act → Block → Block
  branch : Test → Block → Block → Block → Block  -- the first side, the side after ELSE
  while : Test → ℕ → Block → Block → Block  -- count, body
  times : Test → ℕ → Block → Block → Block

-- one block and then another
infixr 60 ◌⧺◌
abbrev pub ◌⧺◌ : Block → Block → Block
nil ⧺ c = c
(skip n b) ⧺ c = skip n (b ⧺ c)
(act p b) ⧺ c = act p (b ⧺ c)
(branch q a d b) ⧺ c = branch q a d (b ⧺ c)
(while q n a b) ⧺ c = while q n a (b ⧺ c)
(times q n a b) ⧺ c = times q n a (b ⧺ c)

-- the number of its records
abbrev pub size : Block → ℕ
size nil = 0
size (skip n b) = 1 + size b
size (act p b) = 1 + size b
size (branch q a d b) = 3 + size a + size d + size b
size (while q n a b) = 2 + size a + size b
size (times q n a b) = 2 + size a + size b

-- how deep it nests
abbrev pub depth : Block → ℕ
depth nil = 0
depth (skip n b) = depth b
depth (act p b) = depth b
depth (branch q a d b) = max (1 + max (depth a) (depth d)) (depth b)
depth (while q n a b) = max (1 + depth a) (depth b)
depth (times q n a b) = max (1 + depth a) (depth b)

-- "SET: byte 1 the operation .., byte 2 the target variable, byte 3 the left variable (0 for copy), bytes 4 to 7 the right value."
-- "READ and WRITE: byte 2 the variable, byte 3 the port."
-- "Bytes 8 to 11 hold the count of SKIP .., WHILE and TIMES .. BEAT has its value in bytes 4 to 7 .. Unused bytes are zero."
abbrev pub test_rec : ℕ → Test → ℕ → Rec
test_rec k q n = rec k q.relation 0 q.left q.right n

abbrev pub skip_rec : ℕ → Rec
skip_rec n = rec SKIP 0 0 0 0 n

abbrev pub act_rec : Act → Rec
act_rec (set o t l x) = rec SET o t l x 0
act_rec (read a p) = rec READ 0 a p 0 0
act_rec (write a p) = rec WRITE 0 a p 0 0
act_rec (check q) = test_rec CHECK q 0
act_rec (beat x) = rec BEAT 0 0 0 x 0
act_rec (save m) = rec SAVE 0 0 0 m 0

abbrev pub else_rec : Rec
else_rec = rec ELSE 0 0 0 0 0

abbrev pub end_rec : Rec
end_rec = rec END 0 0 0 0 0

-- the records of a block
unfoldable pub linearise : Block → List Rec
linearise nil = []
linearise (skip n b) = skip_rec n ∷ linearise b
linearise (act p b) = act_rec p ∷ linearise b
linearise (branch q a d b) = test_rec IF q 0 ∷ (linearise a ++ else_rec ∷ (linearise d ++ end_rec ∷ linearise b))
linearise (while q n a b) = test_rec WHILE q n ∷ (linearise a ++ end_rec ∷ linearise b)
linearise (times q n a b) = test_rec TIMES q n ∷ (linearise a ++ end_rec ∷ linearise b)

-- The tree of records, read from the last record to the first with a stack: its top is the block up to the next ELSE or END that
-- closes a block opened further left, and below it stands the block after each such ELSE or END.
abbrev pub top : List Block → Block
top [] = nil
top (b ∷ bs) = b

abbrev pub under : List Block → List Block
under [] = []
under (b ∷ bs) = bs

abbrev pub push : Rec → List Block → List Block
push r bs =
    let q : Test = record { relation = r.op; left = r.left; right = r.value } in
    cond (eqb r.kind SKIP) (skip r.count (top bs) ∷ under bs)
    (cond (eqb r.kind SET) (act (set r.op r.target r.left r.value) (top bs) ∷ under bs)
    (cond (eqb r.kind READ) (act (read r.target r.left) (top bs) ∷ under bs)
    (cond (eqb r.kind WRITE) (act (write r.target r.left) (top bs) ∷ under bs)
    (cond (eqb r.kind IF) (branch q (top bs) (top (under bs)) (top (under (under bs))) ∷ under (under (under bs)))
    (cond (eqb r.kind WHILE) (while q r.count (top bs) (top (under bs)) ∷ under (under bs))
    (cond (eqb r.kind TIMES) (times q r.count (top bs) (top (under bs)) ∷ under (under bs))
    (cond (eqb r.kind CHECK) (act (check q) (top bs) ∷ under bs)
    (cond (eqb r.kind BEAT) (act (beat r.value) (top bs) ∷ under bs)
    (cond (eqb r.kind SAVE) (act (save r.value) (top bs) ∷ under bs)
    (nil ∷ bs))))))))))

unfoldable pub stack_of : List Rec → List Block
stack_of [] = nil ∷ []
stack_of (r ∷ rs) = push r (stack_of rs)

unfoldable pub tree_of : List Rec → Block
tree_of rs = top (stack_of rs)

-- the tree of a file's bytes
unfoldable pub file_tree : List ℕ → Block
file_tree s = tree_of (records s)
