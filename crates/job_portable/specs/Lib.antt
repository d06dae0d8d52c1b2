pub mod Kept
pub mod Ended
pub mod Telling
