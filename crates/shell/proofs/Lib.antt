pub mod Bounds
pub mod Timed
pub mod Turns
pub mod SecondTrace
