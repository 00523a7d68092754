pub mod FirstLaws
pub mod Laws
