pub mod Packed
pub mod Packer
pub mod Examples
