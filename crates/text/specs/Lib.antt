-- What the contracts on text cite beside the model's definitions.
pub mod Pieces
