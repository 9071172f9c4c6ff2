-- How a block is merged statement by statement; what is kept for the second pass; then sizes, what is written, and the reply of the call.
pub mod Merged
pub mod Keeping
pub mod StatementSizes
pub mod Measured
pub mod PieceBytes
pub mod WrittenBytes
pub mod WrittenParts
pub mod WrittenLoops
pub mod WrittenBranches
pub mod WrittenSteps
pub mod WrittenBlocks
pub mod Replies
