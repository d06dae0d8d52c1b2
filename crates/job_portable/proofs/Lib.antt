pub mod FirstBytes
pub mod Ends
pub mod Unlisted
pub mod Whole
