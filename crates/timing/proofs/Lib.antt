pub mod Layouts
pub mod Computed
pub mod Cases
pub mod Writer
pub mod Ranges
pub mod HandsBack
pub mod VerticalNumbers
