pub mod AllocFree
pub mod Arguments
pub mod Arrays
pub mod Cow
pub mod Parts
pub mod Times
pub use Rattle.expr_error.specs.ErrorKind
pub use Rattle.expr_value.specs.Answers
