-- What the contracts of timing cite beside the model's definitions.
pub mod Times
pub mod Blocks
