pub mod Types
pub mod Gathering
pub mod Laws
pub mod Says
pub mod Once
pub mod Examples
