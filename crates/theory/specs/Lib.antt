-- What is proved of the definitions: the user's demands 2 and 3, and what document 02 claims.
pub mod Demand2
pub mod Demand3
pub mod Watching
pub mod Widened
pub mod Mixing
pub mod Multiplying
-- for the contracts of laying out
pub mod Windows
