pub mod Types
pub mod Hunt
pub mod Laws
pub mod Examples
