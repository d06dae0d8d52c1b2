pub mod Pieces
pub mod PartRuns
pub mod Timed
pub mod Whole
pub mod Codes
