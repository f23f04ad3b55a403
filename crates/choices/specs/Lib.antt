pub mod Types
pub mod Choices
