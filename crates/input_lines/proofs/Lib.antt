pub mod Ends
pub mod Coming
pub mod Moving
