pub mod Inside
pub mod Tellings
pub mod Weighing
