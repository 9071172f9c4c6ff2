-- The laws of the table of starts, and of the lines that are read from it.
pub mod Starting
pub mod StartingBlocks
pub mod StartingBranches
pub mod LineLaws
pub mod Listings
pub mod Printed
