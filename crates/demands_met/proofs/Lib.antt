pub mod MetLaws
pub mod NeededLaws
