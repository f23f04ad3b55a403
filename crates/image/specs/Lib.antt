pub mod Image
pub mod Made
