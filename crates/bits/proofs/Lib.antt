pub mod Laws
pub mod Places
pub mod Copied
pub mod Inside
