pub mod LastLine
pub mod Laws
pub mod Examples
