-- Bytes, records and trees, each from the other, and which files pass the scan.
pub mod Bytes
pub mod Trees
pub mod Stands
pub mod Shapes
pub mod Sound
pub mod Passes
pub mod Images
pub mod Exits
