pub mod Ends
pub mod Says
pub mod Chosen
