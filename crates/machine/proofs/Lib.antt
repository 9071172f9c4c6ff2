-- The laws of the machine.
pub mod ReadyLaws
pub mod Marks
pub mod Whole
pub mod Replies
