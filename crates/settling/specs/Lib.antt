pub mod Types
pub mod Settling
pub mod Laws
pub mod Steps
