-- What the contracts on a table of numbers cite beside the model's definitions.
pub mod Numbers
