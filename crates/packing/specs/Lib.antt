-- What the contracts of packing cite beside the model's definitions.
pub mod Words
