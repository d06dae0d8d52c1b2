pub mod Positions
pub mod ItemsLeft
