-- From what a call answers to the number that C gets.
pub mod Packing
pub mod Bounds
