pub mod Branches
pub mod Erase
pub mod HashUses
pub mod Inside
pub mod Kept
pub mod Literals
pub mod Parts
