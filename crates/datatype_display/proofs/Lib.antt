pub mod Writes
pub mod Escapes
pub mod Children
pub mod Texts
pub mod Prints
pub mod PrintedUtf8
