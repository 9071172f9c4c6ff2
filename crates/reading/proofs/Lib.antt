-- The scan of a file; then what crates above cite too: where blocks end, the blocks that fill a range or stand at a place, and that a file which was read is sound.
pub mod KindTests
pub mod OpenBlocks
pub mod Scanning
pub mod BlockEnds
pub mod FirstKinds
pub mod Filled
pub mod Standing
pub mod Walking
pub mod ClosingTable
pub mod Entry
