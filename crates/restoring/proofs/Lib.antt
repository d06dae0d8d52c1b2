pub mod PromiseKept
pub mod Codes
