-- What the contracts of laying out cite beside the model's definitions.
pub mod Ranges
pub mod Idling
pub mod Measured
pub mod Lent
pub mod Meetings
pub mod Clocked
pub mod Written
pub mod Answers
