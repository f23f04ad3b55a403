pub mod Packet
pub mod Examples
