pub mod Tests
pub mod Same
pub mod Sets
pub mod Table
pub mod KindShapes
pub mod KindLaws
pub mod Parts
