pub mod Run
pub mod Levels
pub mod Climb
pub mod Ids
pub mod Beside
pub mod Computed
