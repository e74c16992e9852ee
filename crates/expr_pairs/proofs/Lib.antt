pub mod Beside
pub mod Zips
mod Compared
mod Noting
mod Positions
