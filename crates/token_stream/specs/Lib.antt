pub mod Stream
pub mod Count
pub mod Examples
