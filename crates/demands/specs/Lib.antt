pub mod Whole
pub mod Headers
pub mod Received
pub mod NamesTheDamage
pub mod ReadsBack
pub mod Noteless
pub mod WritesAgain
