pub mod Kinds
pub mod Meaning
pub mod Ranges
pub mod Refusals
pub mod Row
pub mod Text
