pub mod Lines
pub mod Words
pub mod Moves
pub mod Explained
