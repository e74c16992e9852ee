pub mod AllocFree
pub mod Counting
pub mod Moving
pub mod Opposites
pub mod Parts
