-- What the contracts of the machine cite beside the model's definitions.
pub mod Calls
