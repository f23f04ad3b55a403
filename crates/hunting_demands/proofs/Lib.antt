pub mod HuntsBack
pub mod MetLaws
pub mod Needed
pub mod Radio
pub mod Aired
