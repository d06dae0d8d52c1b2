pub mod Text
pub mod Machine
pub mod Promises
pub mod Source
