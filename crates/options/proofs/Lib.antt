pub mod SameTexts
pub mod Numbers
pub mod Parts
pub mod Added
pub mod Shown
pub mod Passed
pub mod SpansKept
pub mod Examples
