pub mod Checks
pub mod Access
pub mod Engine
pub mod Promises
