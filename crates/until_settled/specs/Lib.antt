pub mod Types
pub mod UntilSettled
pub mod Front
pub mod Laws
pub mod Lasting
