-- The laws of records run one after another.
pub mod Doing
pub mod Behind
pub mod Sides
pub mod Running
pub mod RunningSteps
pub mod RunningBranches
pub mod RunningLoops
pub mod Positions
pub mod Bare
pub mod Files
