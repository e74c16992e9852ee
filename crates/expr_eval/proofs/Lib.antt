pub mod AllocFree
pub mod Allowed
pub mod Asked
pub mod Faults
pub mod Handed
pub mod Meant
pub mod ReadsBack
pub mod Scoped
