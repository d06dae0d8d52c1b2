pub mod Table
pub mod Ranges
pub mod Layout
pub mod Timing
pub mod Promises
