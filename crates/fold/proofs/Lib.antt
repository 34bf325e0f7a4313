pub mod Count
pub mod Held
pub mod Pages
pub mod Reach
mod Rows
pub mod Sums
pub mod Theorems
pub mod Ways
