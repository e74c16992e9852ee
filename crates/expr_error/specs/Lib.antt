pub mod ErrorKind
pub mod Patterns
pub mod Quoted
