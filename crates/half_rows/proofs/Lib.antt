pub mod HalfLaws
pub mod SmallWords
pub mod Keeping
pub mod BackLaws
