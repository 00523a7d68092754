pub mod ConstraintLaws
pub mod LiteralLaws
pub mod DecodedTable
pub mod Sound
pub mod EncodingTheorem
pub mod SameNumbers
pub mod NamedTheorem
