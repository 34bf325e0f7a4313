pub mod Anew
pub mod Asked
pub mod Laws
pub mod Own
pub mod Stores
