pub mod Called
pub mod Labelled
pub mod See
pub mod SeePage
