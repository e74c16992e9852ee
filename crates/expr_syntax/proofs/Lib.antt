mod Compiled
mod Matches
pub mod Passed
pub mod PassedBounds
mod Prefixes
pub mod Printed
mod Reach
mod Refused
mod Runs
mod Walking
mod Weighing
mod Whole
