-- The definitions that state document 01, in the paper's order, and then those of document 02.
pub mod Limits
pub mod Records
pub mod Settings
pub mod Trees
pub mod Times
pub mod Runs
pub mod Equalising
pub mod Layout
pub mod Stopping
pub mod Refusals
pub mod Levels
pub mod Answers
pub mod Replies
pub mod Placement
pub mod Timeline
pub mod Chain
pub mod Rehearsal
pub mod Listing
-- document 02
pub mod Watching
pub mod Periods
-- for the contracts inside the crates
pub mod Standing
