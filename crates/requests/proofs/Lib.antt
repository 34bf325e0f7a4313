pub mod Decoding
pub mod Ranging
pub mod Saying
