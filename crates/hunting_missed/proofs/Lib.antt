pub mod Missed
pub mod Strictest
