pub mod Types
pub mod Reading
pub mod ReadingLaws
pub mod RefusalLaws
