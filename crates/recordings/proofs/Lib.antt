pub mod Inverse
pub mod Spaced
pub mod CutOff
pub mod Rests
