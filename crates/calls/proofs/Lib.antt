pub mod Absent
pub mod Entering
pub mod Opening
pub mod Raised
pub mod Serving
pub mod Ways
