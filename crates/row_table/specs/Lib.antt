pub mod Sound
pub mod Nodes
pub mod Fields
pub mod Internal
