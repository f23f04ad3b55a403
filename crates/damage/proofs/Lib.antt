pub mod Damages
pub mod ToldApart
pub mod Instances
