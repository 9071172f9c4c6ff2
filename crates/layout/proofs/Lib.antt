-- Where the sides of an IF meet; the blocks of a file, and how each is laid; then what measuring answers and what is written, turn by
-- turn; the whole file, and the reply of the call.
pub mod Meeting
pub mod Noting
pub mod Standing
pub mod Unrolled
pub mod Passing
pub mod PassingSteps
pub mod PassingRounds
pub mod PassingBranches
pub mod Measuring
pub mod Clocking
pub mod WritingSteps
pub mod IdleLoops
pub mod WritingBlocks
pub mod WritingRounds
pub mod WritingSides
pub mod WritingBranches
pub mod Whole
pub mod WholeClocked
pub mod Replies
