pub mod Replacing
pub mod Laws
pub mod Steps
pub mod Examples
pub mod Speech
