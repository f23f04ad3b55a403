pub mod Laws
pub mod Signed
pub mod Flags
pub mod Codebook
