pub mod Examples
pub mod Parse
pub mod RowsToLend
pub mod Internal
