pub mod Functions
pub mod Names
pub mod OperatorTexts
pub mod Strictness
