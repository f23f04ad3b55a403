pub mod Types
pub mod WrongFrames
pub mod Laws
