pub mod Step
pub mod Whole
