pub mod HalfCase
pub mod ImageCase
pub mod PrintCase
pub mod ReadCase
pub mod Sample
pub mod TableCase
