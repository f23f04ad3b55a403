pub mod Text
pub mod Adds
pub mod Laws
pub mod Examples
