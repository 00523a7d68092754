pub mod EndLaws
pub mod ReadLaws
