pub mod Asked
pub mod Full
pub mod Make
pub mod Reach
pub mod Release
