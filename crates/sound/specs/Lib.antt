pub mod Findings
pub mod Picture
pub mod Seek
pub mod Sound
