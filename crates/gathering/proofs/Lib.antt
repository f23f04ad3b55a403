pub mod Laws
pub mod SaysLaws
pub mod Steps
pub mod Turns
