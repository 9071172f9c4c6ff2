-- The laws for writing a list of bytes piece by piece, those of the records and bytes of blocks, here and in the crates above, of copying and of stores.
pub mod Over
pub mod Laying
pub mod Blocks
pub mod SkipBytes
pub mod Copying
pub mod Stores
