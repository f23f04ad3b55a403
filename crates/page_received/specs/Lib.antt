pub mod Received
pub mod Turned
pub mod Rules
pub mod Settled
