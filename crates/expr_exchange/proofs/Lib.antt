pub mod Ends
pub mod InTurn
pub mod Refused
