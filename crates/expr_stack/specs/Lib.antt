pub mod Bindings
pub mod Cells
pub mod Held
pub mod Memories
pub mod Operands
pub mod Pushes
pub mod Stacked
