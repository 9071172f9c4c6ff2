-- What the contracts of stepping cite beside the model's definitions.
pub mod Machines
pub mod Steps
pub mod Buffers
