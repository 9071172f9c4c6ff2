-- The laws of calls one after another, and of the two that prepare a task.
pub mod Chaining
pub mod Preparing
