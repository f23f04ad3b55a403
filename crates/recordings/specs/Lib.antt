pub mod Chunks
pub mod Same
pub mod First
pub mod Inverse
pub mod Said
pub mod Hit
pub mod CutOff
pub mod CutDamaged
