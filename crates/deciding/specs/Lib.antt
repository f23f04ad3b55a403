pub mod Types
pub mod Deciding
pub mod Laws
pub mod Steps
