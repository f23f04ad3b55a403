pub mod Headers
pub mod Images
pub mod Spoken
