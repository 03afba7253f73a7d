pub mod Rewrites
pub mod RewriteLaws
