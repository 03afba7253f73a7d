pub mod Going
pub mod Status
pub mod Turns
