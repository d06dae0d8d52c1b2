pub mod Noting
pub mod AccessNames
