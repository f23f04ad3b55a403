pub mod Types
pub mod Trip
