pub mod InZone
pub mod Shown
pub mod Stored
