pub mod Answer
pub mod Needs
pub mod Examples
pub mod Internal
