-- A law of the numbers that are packed.
pub mod Healths
