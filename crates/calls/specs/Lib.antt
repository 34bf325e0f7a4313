pub mod Calls
pub mod Entry
pub mod Machine
pub mod Memory
pub mod Pages
