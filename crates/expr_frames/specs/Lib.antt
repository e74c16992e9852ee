pub mod Halts
pub mod Machines
pub mod Ready
pub mod Runs
