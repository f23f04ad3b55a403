pub mod Crc
pub mod Laws
pub mod Multiples
