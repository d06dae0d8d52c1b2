pub mod Computed
pub mod Copied
pub mod Bytes
pub mod Cases
pub mod Writer
pub mod HandsBack
