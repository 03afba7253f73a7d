pub mod Reading
pub mod Steps
pub mod Times
