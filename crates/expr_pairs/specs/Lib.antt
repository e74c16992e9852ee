pub mod Entries
pub mod Keys
pub mod Places
pub mod formers
