pub mod Verdicts
pub mod Said
pub mod Into
pub mod Promises
