pub mod Print
pub mod Internal
