-- How merging settles a block piece by piece, and how a state of laying out goes on; then the ticks before a step, filling, and the
-- bytes of each piece.
pub mod Settling
pub mod Going
pub mod Ticking
pub mod Moves
pub mod Filling
pub mod Windowing
pub mod Writing
pub mod PieceBytes
pub mod WritingWindows
