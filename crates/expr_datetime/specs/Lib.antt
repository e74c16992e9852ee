pub mod Calendar
pub mod Digits
pub mod Durations
pub mod Moments
pub mod ShiftedMoments
pub mod Times
