pub mod PackedLaws
pub mod LentLaws
pub mod PackerLaws
pub mod PackerRuns
