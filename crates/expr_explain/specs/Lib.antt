pub mod Choosing
pub mod Layers
pub mod Noting
pub mod Standing
pub mod Telling
pub mod Walks
