pub mod Codes
pub mod Locations
pub mod Rows
pub mod Views
