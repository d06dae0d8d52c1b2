pub mod Sizes
pub mod Safe
