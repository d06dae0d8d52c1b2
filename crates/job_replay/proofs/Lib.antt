pub mod PartRun
pub mod Taken
pub mod Whole
