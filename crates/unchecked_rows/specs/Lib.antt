pub mod Rows
pub mod Parents
pub mod Levels
pub mod Siblings
pub mod UnionFields
pub mod MapEntries
pub mod Equal
pub mod Internal
