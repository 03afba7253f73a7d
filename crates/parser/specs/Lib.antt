pub mod Answer
pub mod Parse
pub mod Internal
