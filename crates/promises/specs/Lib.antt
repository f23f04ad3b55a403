pub mod Misled
pub mod Trusted
pub mod Heard
pub mod Ruled
pub mod Flipped
pub mod Met
pub mod Needed
