pub mod Calls
pub mod Costs
pub mod Measures
pub mod Operators
pub mod Payments
pub mod Retention
