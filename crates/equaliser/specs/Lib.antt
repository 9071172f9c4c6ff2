-- What the contracts of the equaliser cite beside the model's definitions.
pub mod Merged
pub mod Pads
pub mod Sizes
pub mod Written
pub mod Answers
