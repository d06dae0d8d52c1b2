pub mod Pairs
pub mod Agree
