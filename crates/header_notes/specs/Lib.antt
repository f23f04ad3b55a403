pub mod HeaderNotes
pub mod Laws
