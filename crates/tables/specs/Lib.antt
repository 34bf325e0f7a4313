pub mod Cells
pub mod Found
pub mod Lent
pub mod Rows
pub mod State
