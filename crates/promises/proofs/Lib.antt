pub mod Misled
pub mod Trusted
pub mod Heard
pub mod IfRead
pub mod Ruled
pub mod MetLaws
pub mod Needed
