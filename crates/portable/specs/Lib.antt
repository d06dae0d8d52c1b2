pub mod Table
pub mod Timing
pub mod Promises
