-- What the contracts of running cite beside the model's definitions.
pub mod Promises
