pub mod Counted
pub mod Follows
pub mod Frames
pub mod Memory
pub mod Moves
pub mod Whole
