pub mod AdmittedLaws
pub mod LendingLaws
