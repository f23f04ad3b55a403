pub mod ParityLaws
pub mod Shifts
pub mod Examples
pub mod Syndrome
