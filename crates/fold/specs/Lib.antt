pub mod Fold
pub mod Promise
pub mod Rows
