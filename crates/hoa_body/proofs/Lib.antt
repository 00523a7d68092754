pub mod OpenedLaws
pub mod SetLaws
pub mod TableLaws
pub mod StateLaws
pub mod EdgeLaws
pub mod PartLaws
pub mod BodyLaws
