pub mod Cut
pub mod Lowest
pub mod Pages
pub mod Turn
