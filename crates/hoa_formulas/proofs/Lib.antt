pub mod MemberSets
pub mod Laws
pub mod AtomLaws
pub mod Choices
