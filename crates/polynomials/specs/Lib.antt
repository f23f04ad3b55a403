pub mod Polynomials
pub mod Xor
pub mod Division
pub mod Quotient
pub mod Light
