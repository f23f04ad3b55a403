pub mod Entries
pub mod Laws
pub mod Bits
pub mod Settle
pub mod Examples
