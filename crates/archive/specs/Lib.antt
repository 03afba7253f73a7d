pub mod Archive
pub mod Examples
pub mod Laws
pub mod Internal
