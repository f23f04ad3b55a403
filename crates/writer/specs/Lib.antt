pub mod Types
pub mod Writing
pub mod Laws
pub mod Utterance
