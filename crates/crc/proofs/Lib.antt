pub mod Register
pub mod Laws
pub mod Remainder
pub mod MultiplesLaws
pub mod Damage
