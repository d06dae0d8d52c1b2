pub mod Lowest
pub mod Clock
