-- From a table of numbers to the entries that they stand for.
pub mod TableEntries
