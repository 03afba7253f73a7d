pub mod Rows
pub mod FieldLaws
pub mod Stretches
pub mod Cuts
pub mod TakeLaws
pub mod TakenLaws
pub mod ColumnLaws
