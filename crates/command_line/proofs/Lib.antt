pub mod PlainWord
pub mod ProgramLemmas
pub mod Digits
pub mod Examples
pub mod Adding
