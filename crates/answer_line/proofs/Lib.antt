pub mod Ends
pub mod Writing
pub mod Trees
pub mod Whole
