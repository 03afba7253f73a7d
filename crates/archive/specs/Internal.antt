pub mod Chain
pub mod Fills
pub mod Said
pub mod Writes
