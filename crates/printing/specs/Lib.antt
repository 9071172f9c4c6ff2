-- What the contracts of printing cite beside the model's definitions.
pub mod Inputs
pub mod Rooms
