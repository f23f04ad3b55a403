pub mod BadPairs
pub mod Laws
