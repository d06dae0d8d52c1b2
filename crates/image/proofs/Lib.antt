pub mod Filling
pub mod SavedLoads
pub mod RestKept
