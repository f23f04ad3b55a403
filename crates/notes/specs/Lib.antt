pub mod Notes
pub mod Laws
