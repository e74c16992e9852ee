pub mod Back
pub mod Brackets
pub mod Layout
pub mod Parts
pub mod Steps
pub mod Texts
pub mod Trees
