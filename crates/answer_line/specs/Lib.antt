pub mod Line
pub mod Examples
pub mod Internal
