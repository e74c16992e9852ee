pub mod Context
pub mod Contexts
pub mod Lookups
pub mod Told
