pub mod Rewrite
pub mod Examples
