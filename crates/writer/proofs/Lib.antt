pub mod Writes
pub mod DigitLaws
pub mod Written
