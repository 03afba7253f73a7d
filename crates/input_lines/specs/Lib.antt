pub mod Lines
pub mod Ahead
pub mod Streams
pub mod Messages
pub mod Internal
