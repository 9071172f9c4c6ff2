-- What the contracts of records cite beside the model's definitions.
pub mod Records
pub mod Decoded
pub mod Blocks
