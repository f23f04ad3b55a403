pub mod Types
pub mod Hunting
pub mod Says
pub mod Once
pub mod Examples
