pub mod Laws
pub mod Options
