pub mod Met
pub mod Needed
