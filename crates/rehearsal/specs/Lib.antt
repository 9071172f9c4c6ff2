-- What the parts of a rehearsal answer.
pub mod Promises
