pub mod Ends
pub mod Digits
pub mod Computed
