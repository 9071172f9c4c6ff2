-- The proofs of specs/. Demand2, Demand3, Watching, Widened, Mixing and Multiplying say where each part is proved; the others stand in the order in which they build on each other.
pub mod Demand2
pub mod Demand3
pub mod Watching
pub mod Widened
pub mod Mixing
pub mod Multiplying
pub mod Bench
-- times and runs
pub mod Each
pub mod Times
pub mod Sequences
pub mod Within
pub mod Lasts
pub mod StepTicks
pub mod Views
pub mod Traces
pub mod Agreement
-- what is written
pub mod Forms
pub mod Unrolling
pub mod Weaving
pub mod Follows
-- ticks and windows
pub mod Clock
pub mod Windows
pub mod Placing
pub mod Starts
-- steps, images and taking up
pub mod Every
pub mod Stops
pub mod Outputs
pub mod LastImage
pub mod Unindexed
pub mod Left
pub mod Resuming
pub mod Checkpoints
pub mod Twice
-- laid files
pub mod Laid
pub mod Values
pub mod LaidRuns
pub mod TakenUp
-- replies
pub mod Accepted
pub mod Files
pub mod Running
pub mod StoppedOnce
pub mod Prepared
pub mod Preparing
pub mod Ends
pub mod Reached
pub mod SameCalls
-- the watcher
pub mod WatchRules
pub mod WatchTables
pub mod Silence
pub mod Coverage
pub mod Looks
pub mod BeatsEnding
pub mod CoveredPeriods
pub mod SteadyBeats
pub mod SteadyPeriods
pub mod SteadyExample
