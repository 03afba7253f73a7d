pub mod Tally
pub mod Laws
pub mod Examples
pub mod Internal
