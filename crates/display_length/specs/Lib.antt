pub mod Display
pub mod PrintedLength
pub mod Characters
pub mod Internal
