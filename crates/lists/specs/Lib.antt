pub mod Tests
pub mod Parts
pub mod Rows
pub mod Search
