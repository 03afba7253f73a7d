pub mod ColumnOut
pub mod Examples
pub mod Internal
