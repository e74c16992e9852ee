pub mod Calls
pub mod Civil
pub mod Durations
pub mod LengthMethods
pub mod Moments
pub mod Reading
pub mod Stamps
pub mod Zones
