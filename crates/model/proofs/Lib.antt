-- What no answer loses, the bench theorem, and cases at the limits: they test the definitions.
pub mod Injective
pub mod Untouched
pub mod Bench
pub mod TurnedDown
pub mod AtLimits
pub mod Multiply
pub mod Watcher
