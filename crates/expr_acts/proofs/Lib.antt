pub mod Acting
pub mod Copying
pub mod Deciding
pub mod Flat
mod Named
pub mod Paying
pub mod Uncounted
