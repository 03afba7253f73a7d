pub mod Internal
pub mod HalfRows
pub mod Laws
pub mod Examples
