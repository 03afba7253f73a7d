pub mod Plain
pub mod PrintAndRead
pub mod Examples
pub mod EveryKind
