pub mod Out
pub mod Promises
