-- The pass over a task's records.
pub mod SureWrites
