-- What the contracts of placing cite beside the model's definitions.
pub mod Merging
pub mod States
pub mod Placed
