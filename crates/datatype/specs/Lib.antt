pub mod Limits
pub mod Kind
pub mod Label
pub mod Tree
pub mod Table
pub mod Internal
