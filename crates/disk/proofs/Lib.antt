pub mod Bytes
pub mod Follows
pub mod Keeps
pub mod Relocate
pub mod Settle
pub mod Taking
