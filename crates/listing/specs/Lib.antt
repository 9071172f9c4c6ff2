-- What the contracts of listing cite beside the model's definitions.
pub mod Starts
pub mod Lines
