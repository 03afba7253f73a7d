pub mod LayoutLaws
pub mod Kindred
