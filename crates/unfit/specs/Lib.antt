pub mod Unfit
pub mod Laws
