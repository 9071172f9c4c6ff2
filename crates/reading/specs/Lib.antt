-- What the contracts of reading cite beside the model's definitions.
pub mod Nesting
pub mod Scanning
pub mod Closing
pub mod Ranges
pub mod Walks
pub mod Answers
