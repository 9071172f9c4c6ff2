-- The laws of a rehearsal.
pub mod Alike
pub mod SecondLaws
pub mod Theorem
pub mod Preparing
