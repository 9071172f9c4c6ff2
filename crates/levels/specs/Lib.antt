-- What the contracts of levels cite beside the model's definitions.
pub mod Flags
