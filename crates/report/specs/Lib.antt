pub mod Report
pub mod Sections
