pub mod Laws
pub mod Purge
pub mod Slots
