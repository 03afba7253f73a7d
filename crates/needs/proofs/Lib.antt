pub mod ColumnLaws
pub mod NeedLaws
pub mod FirstLaws
pub mod EqualNeeds
