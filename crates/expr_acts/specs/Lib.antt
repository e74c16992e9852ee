pub mod Acts
pub mod Counted
pub mod Decides
pub mod Here
pub mod Stores
pub mod Texts
