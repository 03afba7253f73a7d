pub mod Check
pub mod Nodes
pub mod Computed
