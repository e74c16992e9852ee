pub mod Deep
pub mod Empty
pub mod Growing
pub mod Parts
mod Passing
mod Sums
