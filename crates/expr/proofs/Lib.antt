pub mod Bracketed
pub mod Ending
pub mod Placed
pub mod SameText
