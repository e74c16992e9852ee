pub mod Served
pub mod Words
