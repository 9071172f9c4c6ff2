-- What the proofs on text cite, here and in the crate above.
pub mod Digits
pub mod Pieces
