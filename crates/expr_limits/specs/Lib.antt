pub mod Counting
pub mod MeterView
pub mod Outcomes
pub mod Patterns
pub mod Rooms
pub mod Sizes
