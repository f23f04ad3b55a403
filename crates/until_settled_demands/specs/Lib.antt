pub mod Full
pub mod Written
pub mod Entry
pub mod Literally
