pub mod Copies
pub mod Counts
pub mod Disk
pub mod Lost
pub mod Reached
pub mod Refused
pub mod Walks
