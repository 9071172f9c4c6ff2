-- What the proofs on printing cite.
pub mod Reading
pub mod Rendering
